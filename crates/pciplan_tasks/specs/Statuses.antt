-- Failures, and the status of the program.
use Rattle.std.specs.Prelude.{ℕ}
use Rattle.pci_dump.specs.declared.read_fault.ReadFault.{ReadFault}
use Rattle.pci_dump.specs.declared.read_fault.ReadFault.TheVariants as faults
use Rattle.pciplan_tasks.specs.declared.failure.Failure.{Failure}
use Rattle.pciplan_tasks.specs.declared.failure.Failure.TheVariants.{Usage, Root, Model, Host, Pool, Fixed, Spare, Slots, Dump, Probe, Sizes, Also, Memory, Io}

-- of a text that isn't read
abbrev pub text_status : ReadFault → ℕ
text_status faults.Io = 4
text_status faults.Memory = 3
text_status _ = 2

-- 2 where a text or the words are refused, 3 at want of memory, 4 where reading or writing failed
abbrev pub status_of : Failure → ℕ
status_of Usage = 2
status_of Root = 2
status_of Model = 2
status_of (Host space) = 2
status_of (Pool option) = 2
status_of Fixed = 2
status_of Spare = 2
status_of Slots = 2
status_of (Dump fault) = text_status fault
status_of (Probe fault) = text_status fault
status_of (Sizes fault) = text_status fault
status_of (Also fault) = text_status fault
status_of Memory = 3
status_of Io = 4
