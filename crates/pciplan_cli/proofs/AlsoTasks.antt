-- A task with what is told.
use Rattle.std.proofs.Common.{◌≡◌, Bool, refl}
use Rattle.pci_dump.specs.declared.read_fault.ReadFault.TheVariants.{Io}
use Rattle.pciplan_tasks.specs.Also.{IsAlsoUnread}
use Rattle.pciplan_tasks.specs.declared.task.Also.{Also}
use Rattle.pciplan_tasks.specs.declared.task.Also.TheVariants.{Refused}
use Rattle.pciplan_tasks.specs.declared.task.Beside.{Beside}
use Rattle.pciplan_tasks.specs.declared.task.Printed.{Printed}
use Rattle.pciplan_tasks.specs.declared.task.SettleRequest.{SettleRequest}
use Rattle.pciplan_tasks.specs.declared.task.Task.{Task}
use Rattle.pciplan_tasks.specs.declared.task.Task.TheVariants as task
use Rattle.pciplan_cli.specs.AlsoTexts.{with_also}

-- a third text that isn't read is that of the task
pub unread_told : (t : Task) (also : Also) → IsAlsoUnread (with_also t also) → also ≡ Refused Io
unread_told (task.Faults beside why) also unread = unread
unread_told (task.Map beside) also unread = unread
unread_told (task.Settle request printed) also unread = unread
unread_told _ also unread = absurd (let no : ⊥ = cc unread in no)

-- a task that has no third text takes nothing of it
pub others_told : (t : Task) (also : Also) → ((beside : Beside) (why : Bool) → t ≡ task.Faults beside why → ⊥) → ((beside : Beside) → t ≡ task.Map beside → ⊥)
    → ((request : SettleRequest) (printed : Printed) → t ≡ task.Settle request printed → ⊥) → t ≡ with_also t also
others_told (task.Faults beside why) also no_faults no_map no_settle = absurd (no_faults beside why refl)
others_told (task.Map beside) also no_faults no_map no_settle = absurd (no_map beside refl)
others_told (task.Settle request printed) also no_faults no_map no_settle = absurd (no_settle request printed refl)
others_told _ also no_faults no_map no_settle = refl
