-- Why a survey is refused.
use Rattle.std.specs.Prelude.{ℕ, ◌<◌, List}
use Rattle.pci_spec.specs.Text.{Block}
use Rattle.pci_spec.specs.Fault.{fault_number}
use Rattle.pci_spec.specs.Order.{IsFirstThere}
use Rattle.pci_base.specs.declared.memory.Refused.{Refused}
use Rattle.pci_base.specs.declared.memory.Refused.TheVariants.{Fault, Memory}
use Rattle.pci_function.specs.declared.fault.Fault.{Fault as FaultOfCode}
use Rattle.pci_function.specs.Fault.{fault_of}
use Rattle.pci_tree.specs.Survey.{Surveyed, IsRefusedBy}

-- a survey is refused by a fault alone; it needs no more memory
abbrev pub IsRefusalOf : Surveyed → Refused FaultOfCode → Type 0
IsRefusalOf v (Fault e) = IsRefusedBy v (fault_of e)
IsRefusalOf v Memory = ⊥

-- a dump and its probe are refused by the first fault that is there, which is one that is looked for before judging, or for want of memory
abbrev pub IsPairRefusal : List ℕ → List Block → List Block → Refused FaultOfCode → Type 0
IsPairRefusal roots dump probe (Fault e) =
    IsFirstThere roots dump probe (fault_of e) × (fault_number (fault_of e) < 60)
IsPairRefusal roots dump probe Memory = Unit {0}
