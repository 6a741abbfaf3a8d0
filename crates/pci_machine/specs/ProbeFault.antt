-- Why a dump has no derived probe, as the definitions have it.
use Rattle.std.specs.Prelude.{◌≡◌, List, Some}
use Rattle.pci_spec.specs.Slot.{Slot}
use Rattle.pci_spec.specs.Text.{Block}
use Rattle.pci_spec.specs.SizesText.{SizesBlock}
use Rattle.pci_spec.specs.ProbeOf.{probe_fault}
use Rattle.pci_spec.specs.ProbeOf as spec
use Rattle.pci_image.specs.declared.fault.ImageFault.TheVariants as of_image
use Rattle.pci_base.specs.declared.memory.Refused.{Refused}
use Rattle.pci_base.specs.declared.memory.Refused.TheVariants.{Fault, Memory}
use Rattle.pci_machine.specs.Assuming.{assuming_of}
use Rattle.pci_machine.specs.declared.assuming.Assuming.{Assuming}
use Rattle.pci_machine.specs.declared.derive_fault.DeriveFault.{DeriveFault}
use Rattle.pci_machine.specs.declared.derive_fault.DeriveFault.TheVariants as of_function
use Rattle.pci_machine.specs.declared.probe_fault.ProbeFault.{ProbeFault}
use Rattle.pci_machine.specs.declared.probe_fault.ProbeFault.TheVariants.{SlotsDiffer, NoVendor, HeaderKind, NoSize, OtherSize}

abbrev pub fault_value : ProbeFault → spec.ProbeFault
fault_value (SlotsDiffer slot) = spec.SlotsDiffer slot
fault_value (NoVendor slot) = spec.NoVendor slot
fault_value (HeaderKind slot) = spec.HeaderKind slot
fault_value (NoSize slot register) = spec.NoSize slot register
fault_value (OtherSize slot register) = spec.OtherSize slot register

-- the fault of a function, with its slot; a header has no other faults
abbrev pub probe_fault_at : Slot → DeriveFault → spec.ProbeFault
probe_fault_at slot (of_function.Header of_image.HeaderKind) = spec.HeaderKind slot
probe_fault_at slot (of_function.Header _) = spec.NoVendor slot
probe_fault_at slot (of_function.NoSize register) = spec.NoSize slot register
probe_fault_at slot (of_function.OtherSize register) = spec.OtherSize slot register

-- what is named is the first that there is
abbrev pub IsFirstProbeFault : Assuming → List Block → List SizesBlock → Refused ProbeFault → Type 0
IsFirstProbeFault assuming dump sizes (Fault fault) =
    probe_fault (assuming_of assuming) dump sizes ≡ Some (fault_value fault)
IsFirstProbeFault assuming dump sizes Memory = Unit {0}
