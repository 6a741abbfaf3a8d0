-- The verdict on an admitted dump and its probe.
use Rattle.std.specs.Prelude.{◌≡◌}
use Rattle.pci_spec.specs.System.{system_of}
use Rattle.pci_spec.specs.Sound.{IsSound}
use Rattle.pci_spec.specs.Order.{IsFirst, IsFirstThere}
use Rattle.pci_function.specs.Fault.{fault_of}
use Rattle.pci_tree.specs.Admission.{Admission}
use Rattle.pci_check.specs.declared.verdict.Verdict.{Verdict}
use Rattle.pci_check.specs.declared.verdict.Verdict.TheVariants.{Yes, No}

-- yes, with the evidence of this dump and probe, or no, with the first fault, where the system isn't sound
abbrev pub IsVerdictOf : {A : Type 0} → Admission → Verdict A → Type 0
IsVerdictOf a (Yes sound) = (sound ≡ a) × IsSound a.roots (system_of a.dump a.probe)
IsVerdictOf a (No fault) =
    IsFirst a.roots (system_of a.dump a.probe) (fault_of fault)
    × (IsSound a.roots (system_of a.dump a.probe) → ⊥)
    × IsFirstThere a.roots a.dump a.probe (fault_of fault)
