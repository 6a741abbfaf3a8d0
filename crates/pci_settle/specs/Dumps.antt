-- A dump in which all has its place, and the writes that lead to it, beside what is kept.
use Rattle.std.specs.Prelude.{◌≡◌, ℕ, List, length}
use Rattle.pci_spec.specs.Text.{Block, slots_of}
use Rattle.pci_spec.specs.Machine.{Write}
use Rattle.pci_spec.specs.System.{system_of}
use Rattle.settle_spec.specs.Lists.{Request}
use Rattle.settle_spec.specs.Kept.{Kept}
use Rattle.settle_spec.specs.Keeping.Registers.{settled}
use Rattle.settle_spec.specs.Keeping.Writes as spec
use Rattle.pci_tree.specs.Admission.{Admission}
use Rattle.pci_place.specs.Above.{system_in}

-- it is of the same functions, and with the probe it makes the settled system
pub record IsSettledDump (q : Request) (keep : Kept) (a : Admission) (dump : List Block) : Type 0 where
  pub slots : slots_of dump ≡ slots_of a.dump
  pub system : system_of dump a.probe ≡ settled q (system_in a) keep

-- with the writes that lead there, so many of which close functions
pub record IsSettledByWrites (q : Request) (keep : Kept) (a : Admission) (dump : List Block)
    (writes : List Write) (count : ℕ) : Type 0 where
  pub settled : IsSettledDump q keep a dump
  pub writes_are : writes ≡ spec.settle_writes q (system_in a) keep
  pub closing : count ≡ length (spec.closings q (system_in a) keep (system_in a))
