-- A command line that was carried out.
use Rattle.std.specs.Prelude.{◌≡◌, ◌⊎◌, ◌+◌, ℕ, List, Option}
use Rattle.std.specs.String.{string_bytes}
use Rattle.pci_dump.specs.ReadFault.{IsTextFault}
use Rattle.pci_dump.specs.declared.read_fault.ReadFault.{ReadFault}
use Rattle.pci_dump.specs.declared.read_fault.ReadFault.TheVariants as faults
use Rattle.pciplan_tasks.specs.Tasks.{HasDump, IsTaskAnswered, IsAnswerBegun, IsFaultOfLeft}
use Rattle.pciplan_tasks.specs.declared.failure.Failure.{Failure}
use Rattle.pciplan_tasks.specs.declared.failure.Failure.TheVariants.{Dump, Probe, Sizes}
use Rattle.pciplan_tasks.specs.declared.task.Task.{Task}
use Rattle.pciplan_tasks.specs.declared.task.Task.TheVariants as task
use Rattle.pciplan_cli.specs.declared.invocation.Invocation.{Invocation}

-- texts by their paths: which paths stand for one, and the bytes of each
pub record TextsByPath : Type 1 where
  pub stands : List ℕ → Type 0
  pub bytes_at : List ℕ → Option (List ℕ)

abbrev pub texts : (List ℕ → Type 0) → (List ℕ → Option (List ℕ)) → TextsByPath
texts stands bytes_at = record { stands = stands; bytes_at = bytes_at }

-- a command line was carried out on the texts at its two paths: the answer is written, and its remarks are told
pub record IsCarriedOut (line : Invocation) (dump second : TextsByPath) (status : ℕ)
    (IsWritten AreTold : List ℕ → Type 0) : Type 0 where
  pub dump_stands : dump.stands (string_bytes line.dump)
  pub second_stands : second.stands (string_bytes line.probe)
  pub answered : IsTaskAnswered line.task (dump.bytes_at (string_bytes line.dump))
      (second.bytes_at (string_bytes line.probe)) status IsWritten AreTold

-- a beginning of that answer was written
abbrev pub IsCarriedOutBegun : Invocation → (List ℕ → Option (List ℕ)) → (List ℕ → Option (List ℕ))
    → Option (List ℕ) → Option (List ℕ) → Type 0
IsCarriedOutBegun line dump_at second_at before after =
    IsAnswerBegun line.task (dump_at (string_bytes line.dump))
    (second_at (string_bytes line.probe)) before after

-- ---- a text can't be opened

-- the failure that names the second text of a task
abbrev pub second_unread : Task → Failure
second_unread (task.Probe assuming) = Sizes faults.Io
second_unread _ = Probe faults.Io

-- the dump isn't read, by this fault: by 1 only where a read or an opening of it failed
pub record IsDumpUnread (left : Option (List ℕ)) (before after : ℕ)
    (fault : ReadFault) : Type 0 where
  pub fault_of : IsFaultOfLeft IsTextFault left fault
  pub failed : fault ≡ faults.Io → after ≡ before + 1

-- the failure where the second text can't be opened: it names that text, unless the dump isn't read
abbrev pub IsSecondUnopened : Task → Option (List ℕ) → ℕ → ℕ → Failure → Type 0
IsSecondUnopened task dump_left before after failure =
    (HasDump dump_left × (failure ≡ second_unread task))
    ⊎ ((fault : ReadFault) × IsDumpUnread dump_left before after fault × (failure ≡ Dump fault))
