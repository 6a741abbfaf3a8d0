-- The answer of a command as one JSON document.
use Rattle.std.specs.Prelude.{◌≡◌, ◌⊎◌, ◌<◌, ◌≤◌, ℕ, List, [], ◌∷◌, ◌++◌, true, string_bytes}
use Rattle.std.specs.Io.KnownBytes.{Appends}
use Rattle.pci_dump.specs.Begun.{AppendsBeginning}
use Rattle.json.specs.Print.{print}
use Rattle.json.specs.Tree.{json_tokens}
use Rattle.pci_json.specs.Documents.{document_of}
use Rattle.pci_json.specs.declared.document.Command.{Command}
use Rattle.pci_json.specs.declared.document.Command.TheVariants as json
use Rattle.pciplan_cli.specs.CarriedOut.{TextsByPath, IsCarriedOut}
use Rattle.pciplan_cli.specs.Invocations.{IsInvocationOf, HasBadWords}
use Rattle.pciplan_cli.specs.declared.invocation.Invocation.{Invocation}
use Rattle.pciplan_tasks.specs.Answers.{Answer, AreRemarked}
use Rattle.pciplan_tasks.specs.Tasks.{IsAnswerOf, IsTaskRefused}
use Rattle.pciplan_tasks.specs.declared.task.Printed.TheVariants.{Writes}
use Rattle.pciplan_tasks.specs.declared.task.Task.{Task}
use Rattle.pciplan_tasks.specs.declared.task.Task.TheVariants as task
use Rattle.pciplan_front.specs.Went.{Went}

-- the command whose answer has a document: an answer that is a dump has none, nor has a script
abbrev pub IsDocumented : Task → Command → Type 0
IsDocumented task.Show command = command ≡ json.Show
IsDocumented (task.Check roots) command = command ≡ json.Check
IsDocumented (task.Faults beside why) command = command ≡ json.Faults
IsDocumented (task.Map beside) command = command ≡ json.Map
IsDocumented (task.Plan pools true why roots) command = command ≡ json.Plan
IsDocumented (task.Settle request Writes) command = command ≡ json.Settle
IsDocumented _ command = ⊥

-- the document of a text of this status, on one line
abbrev pub document_line : Command → ℕ → List ℕ → List ℕ
document_line command status text = print (json_tokens (document_of command status text)) ++ 10 ∷ []

-- the answer with its document in the place of its lines
abbrev pub with_document : Command → Answer → Answer
with_document command answer = record answer { text = document_line command answer.status answer.text }

-- what a line answers to the texts at its paths, with its document
pub record IsJsonReply (line : Invocation) (dump second : TextsByPath) (reply : Answer) : Type 0 where
  pub command : Command
  pub documented : IsDocumented line.task command
  pub dump_stands : dump.stands (string_bytes line.dump)
  pub second_stands : second.stands (string_bytes line.probe)
  pub answer : Answer
  pub is : IsAnswerOf line.task (dump.bytes_at (string_bytes line.dump))
      (second.bytes_at (string_bytes line.probe)) answer
  pub line_is : reply ≡ with_document command answer

-- its command has no document, or a text at its paths is refused
abbrev pub IsReplyRefused : Invocation → TextsByPath → TextsByPath → Type 0
IsReplyRefused line dump second =
    ((command : Command) → IsDocumented line.task command → ⊥)
    ⊎ IsTaskRefused line.task (dump.bytes_at (string_bytes line.dump))
    (second.bytes_at (string_bytes line.probe))

-- a beginning of the document of the line's answer was written
pub record IsLineBegun (line : Invocation) (dump second : TextsByPath)
    (IsWritten : List ℕ → Type 0) : Type 0 where
  pub command : Command
  pub documented : IsDocumented line.task command
  pub answer : Answer
  pub is : IsAnswerOf line.task (dump.bytes_at (string_bytes line.dump))
      (second.bytes_at (string_bytes line.probe)) answer
  pub begun : IsWritten (document_line command answer.status answer.text)

-- the line was carried out, and the document of its answer is written
pub record IsLineDone (line : Invocation) (dump second : TextsByPath) (status : ℕ)
    (IsWritten AreTold : List ℕ → Type 0) : Type 0 where
  pub command : Command
  pub documented : IsDocumented line.task command
  pub carried_out : IsCarriedOut line dump second status
      (λ text. IsWritten (document_line command status text)) AreTold

-- the words are refused, their command has no document, or a text at their paths is refused
abbrev pub IsJsonRefused : List (List ℕ) → TextsByPath → TextsByPath → TextsByPath → Type 0
IsJsonRefused words dump second third =
    HasBadWords words
    ⊎ ((line : Invocation) × IsInvocationOf words third line × IsReplyRefused line dump second)

-- what `json` did
pub record IsJson (words : List (List ℕ)) (dump second third : TextsByPath) (status : ℕ)
    (out err : Went) (HasFailed : Type 0) : Type 0 where
  pub done : status < 2
      → (line : Invocation) × IsInvocationOf words third line
      × IsLineDone line dump second status (Appends out.before out.after)
      (AreRemarked err.before err.after err.failed err.same)
  pub refused : status ≡ 2 → IsJsonRefused words dump second third
  pub quiet : (status ≡ 2) ⊎ (status ≡ 3) → out.same
  pub begun : status ≡ 4
      → out.same
      ⊎ ((line : Invocation) × IsInvocationOf words third line
      × IsLineBegun line dump second (AppendsBeginning out.before out.after))
  pub failed : status ≡ 4 → HasFailed
  pub known : status ≤ 4
