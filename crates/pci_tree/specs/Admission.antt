-- What stands of an admitted dump and its probe.
use Rattle.std.specs.Prelude.{◌≡◌, ℕ, List}
use Rattle.pci_spec.specs.Text.{Block, slots_of}
use Rattle.pci_spec.specs.System.{IsSystem, system_of}
use Rattle.pci_spec.specs.Bus.{IsNested}
use Rattle.pci_spec.specs.Sound.{IsInProfile, HasChains}
use Rattle.pci_spec.specs.Decoded.{HasRecords}
use Rattle.pci_tree.specs.Outline.{Tree}

-- a dump and its probe, with the root buses
pub record Admission : Type 0 where
  pub roots : List ℕ
  pub dump : List Block
  pub probe : List Block

-- they make a system whose buses nest, in the profile, whose capabilities lists end
pub record IsAdmitted (a : Admission) : Type 0 where
  pub slots : slots_of a.dump ≡ slots_of a.probe
  pub system : IsSystem (system_of a.dump a.probe)
  pub nested : IsNested a.roots (system_of a.dump a.probe)
  pub profile : IsInProfile a.roots (system_of a.dump a.probe)
  pub chains : HasChains (system_of a.dump a.probe)

-- the outline of an admitted dump and its probe
pub record IsOutlineFor (a : Admission) (o : Tree) : Type 0 where
  pub admitted : IsAdmitted a
  pub roots : o.roots ≡ a.roots
  pub records : HasRecords (system_of a.dump a.probe) o.records
