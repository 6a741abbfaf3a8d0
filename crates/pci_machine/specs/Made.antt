-- A machine that is made of a dump and its probe.
use Rattle.std.specs.Prelude.{ℕ, ◌≤◌, Bool, true, false, IsTrue, IsFalse, List}
use Rattle.pci_spec.specs.Text.{Block}
use Rattle.pci_spec.specs.System.{system_of}
use Rattle.pci_spec.specs.Fault as faults
use Rattle.pci_spec.specs.Fault.{IsThere}
use Rattle.pci_spec.specs.Order.{phase_of, is_before, image_at}
use Rattle.pci_function.specs.declared.fault.Fault.{Fault as FaultOfCode}
use Rattle.pci_function.specs.Fault.{fault_of}
use Rattle.pci_base.specs.declared.memory.Refused.{Refused}
use Rattle.pci_base.specs.declared.memory.Refused.TheVariants.{Fault, Memory}

-- whether a fault is one of a capabilities list, which a machine doesn't read
abbrev pub is_of_list : faults.Fault → Bool
is_of_list (faults.CapRange slot place) = true
is_of_list (faults.CapLoop slot place) = true
is_of_list (faults.CapCut slot place) = true
is_of_list _ = false

-- it is one of slots, of identities and probes, or of address registers: 20 to 26, 30 and 31
abbrev pub IsOfMachine : Refused FaultOfCode → Type 0
IsOfMachine (Fault fault) = (phase_of (fault_of fault) ≤ 2) × IsFalse (is_of_list (fault_of fault))
IsOfMachine Memory = Unit {0}

-- a fault that is named is there
abbrev pub IsMachineFaultThere : List Block → List Block → Refused FaultOfCode → Type 0
IsMachineFaultThere dump probe (Fault fault) = (roots : List ℕ) → IsThere roots dump probe (fault_of fault)
IsMachineFaultThere dump probe Memory = Unit {0}

-- none that is looked for before it is there, but for those of capabilities lists
abbrev pub IsMachineFaultFirst : List Block → List Block → Refused FaultOfCode → Type 0
IsMachineFaultFirst dump probe (Fault fault) =
    (roots : List ℕ) (other : faults.Fault)
    → IsTrue (is_before (image_at (system_of dump probe)) other (fault_of fault))
    → IsFalse (is_of_list other) → IsThere roots dump probe other → ⊥
IsMachineFaultFirst dump probe Memory = Unit {0}
