-- What is derived for one function of a dump.
use Rattle.std.specs.Prelude.{◌≡◌, Some}
use Rattle.pci_spec.specs.Text.{Block}
use Rattle.pci_spec.specs.SizesText.{SizesBlock}
use Rattle.pci_spec.specs.ProbeOf.{Told, read_back_fault}
use Rattle.pci_base.specs.declared.memory.Refused.{Refused}
use Rattle.pci_base.specs.declared.memory.Refused.TheVariants.{Fault, Memory}
use Rattle.pci_machine.specs.Assuming.{assuming_of}
use Rattle.pci_machine.specs.declared.assuming.Assuming.{Assuming}
use Rattle.pci_machine.specs.declared.probe_fault.ProbeFault.{ProbeFault}
use Rattle.pci_machine.specs.ProbeFault.{fault_value}

-- a function that a dump shows and sizes tell of
abbrev pub told_function : Block → SizesBlock → Told
told_function block sizes = record { slot = block.slot; image = block.image; lines = sizes.lines }

-- it has no probe, for the fault that is named
abbrev pub IsFaultOfFunction : Assuming → Told → Refused ProbeFault → Type 0
IsFaultOfFunction assuming f (Fault fault) =
    read_back_fault (assuming_of assuming) f ≡ Some (fault_value fault)
IsFaultOfFunction assuming f Memory = Unit {0}
