-- What a third text tells of ranges, as a task has it.
use Rattle.std.specs.Prelude.{◌≡◌, List, []}
use Rattle.judge_spec.specs.Told.{ToldRange}
use Rattle.pci_dump.specs.declared.read_fault.ReadFault.{ReadFault}
use Rattle.pci_dump.specs.declared.read_fault.ReadFault.TheVariants.{Io}
use Rattle.pciplan_tasks.specs.declared.task.Also.{Also}
use Rattle.pciplan_tasks.specs.declared.task.Also.TheVariants.{Told, Refused}
use Rattle.pciplan_tasks.specs.declared.task.Task.{Task}
use Rattle.pciplan_tasks.specs.declared.task.Task.TheVariants as task

-- a task that has no such text is told nothing
abbrev pub also_of : Task → Also
also_of (task.Faults beside why) = beside.also
also_of (task.Map beside) = beside.also
also_of (task.Settle request printed) = request.also
also_of _ = Told []

-- the text is read, or there is none
abbrev pub IsAlsoTold : Also → Type 0
IsAlsoTold (Told ranges) = Unit {0}
IsAlsoTold (Refused fault) = ⊥

-- its ranges; of a text that isn't read there are none, as no task is answered then
abbrev pub ranges_told : Also → List ToldRange
ranges_told (Told ranges) = ranges
ranges_told (Refused fault) = []

-- it has this fault
abbrev pub IsAlsoFault : Task → ReadFault → Type 0
IsAlsoFault t fault = also_of t ≡ Refused fault

-- it can't be opened, or a read of it failed
abbrev pub IsAlsoUnread : Task → Type 0
IsAlsoUnread t = IsAlsoFault t Io
