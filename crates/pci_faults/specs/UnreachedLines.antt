-- The faults 60 of regions that have to be reached.
use Rattle.std.specs.Prelude.{◌≡◌, ℕ, List}
use Rattle.pci_spec.specs.Slot.{Slot}
use Rattle.pci_tree.specs.Outline.{Tree}
use Rattle.judge_spec.specs.Given.{Given}
use Rattle.judge_spec.specs.ToldAllFaults.{region_number}
use Rattle.pci_claims.specs.Made.{AreOneEach}
use Rattle.pci_faults.specs.declared.named.Unreached.{Unreached}
use Rattle.pci_faults.specs.declared.needed.Needed.{Needed}
use Rattle.pci_faults.specs.Needed.{needed_place}
use Rattle.pci_faults.specs.Stopped.{IsNeverUnreached, IsUnreachedLine}

-- the fault of a region with this address and this bridge
abbrev pub unreached_at : Needed → ℕ → Slot → Unreached
unreached_at n address bridge =
    record { region = n.name; space = n.space; address = address; bridge = bridge }

-- a list of all faults names it
abbrev pub IsUnreachedOfOne : Given → Tree → Needed → Unreached → Type 0
IsUnreachedOfOne given t n fault =
    (address : ℕ) × (bridge : Slot) × IsUnreachedLine given t n address bridge
    × (unreached_at n address bridge ≡ fault)

-- of each of these that has a fault 60 that fault, in their order
abbrev pub AreUnreachedLines : Given → Tree → List Needed → List Unreached → Type 0
AreUnreachedLines given t list lines =
    AreOneEach (IsUnreachedOfOne given t) (λ n. IsNeverUnreached given t n → ⊥) needed_place
    (λ f. region_number f.region.slot f.region.register) list lines
