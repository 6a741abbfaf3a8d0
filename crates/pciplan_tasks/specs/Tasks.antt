-- What a task answers to the two texts that are left, and why it doesn't.
use Rattle.std.specs.Prelude.{◌≡◌, ◌≢◌, ◌⊎◌, ◌+◌, ℕ, List, Option, Some, Bool, true, false}
use Rattle.pci_spec.specs.Text.{Block, IsTextOf}
use Rattle.pci_spec.specs.SizesText.{SizesBlock, IsSizesTextOf}
use Rattle.pci_dump.specs.Begun.{AppendsBeginning}
use Rattle.pci_dump.specs.ReadFault.{IsTextFault}
use Rattle.pci_dump.specs.declared.read_fault.ReadFault.{ReadFault}
use Rattle.pci_dump.specs.declared.read_fault.ReadFault.TheVariants as faults
use Rattle.pci_machine.specs.Assuming.{assuming_of}
use Rattle.pci_machine.specs.SizesFault.{IsSizesTextFault}
use Rattle.pci_tree.specs.Roots.{buses_of}
use Rattle.pci_place.specs.Pools.{pools_value}
use Rattle.pci_check.specs.Audits.{IsDumpOf}
use Rattle.pciplan_tasks.specs.Also.{also_of, IsAlsoFault, IsAlsoTold}
use Rattle.pciplan_tasks.specs.Answers.{Answer, IsShowAnswer, IsChecked, IsSizeAnswer}
use Rattle.pciplan_tasks.specs.FaultsAnswers.{IsFaultsAnswer}
use Rattle.pciplan_tasks.specs.MapAnswers.{IsMapAnswerBy}
use Rattle.pciplan_tasks.specs.PlanAnswers.{IsPlanAnswer}
use Rattle.pciplan_tasks.specs.WordsSettling.{IsSettleAnswer}
use Rattle.pciplan_tasks.specs.ProbeAnswers.{probe_answer}
use Rattle.pciplan_tasks.specs.Statuses.{status_of}
use Rattle.pciplan_tasks.specs.declared.task.Task.{Task}
use Rattle.pciplan_tasks.specs.declared.task.Task.TheVariants as task
use Rattle.pciplan_tasks.specs.declared.failure.Failure.{Failure}
use Rattle.pciplan_tasks.specs.declared.failure.Failure.TheVariants.{Dump, Probe, Sizes, Also, Memory}

-- the sizes whose text was left, where the bytes are told
abbrev pub AreSizesOf : Option (List ℕ) → List SizesBlock → Type 0
AreSizesOf left sizes = (bytes : List ℕ) → left ≡ Some bytes → IsSizesTextOf bytes sizes

-- what is answered to the dump and to the blocks of the second text that were left
pub record IsAnswerTo {B : Type 0} (IsSecond : Option (List ℕ) → List B → Type 0)
    (Means : List Block → List B → Answer → Type 0)
    (dump_left second_left : Option (List ℕ)) (answer : Answer) : Type 0 where
  pub dump : List Block
  pub second : List B
  pub dump_text : IsDumpOf dump_left dump
  pub second_text : IsSecond second_left second
  pub means : Means dump second answer

-- what a task answers to a dump and its probe; that of a derived probe is none of these
abbrev pub IsPairAnswer : Task → List Block → List Block → Answer → Type 0
IsPairAnswer task.Show = IsShowAnswer
IsPairAnswer (task.Check roots) = IsChecked (buses_of roots)
IsPairAnswer (task.Faults beside why) = IsFaultsAnswer beside why
IsPairAnswer (task.Map beside) = IsMapAnswerBy beside
IsPairAnswer task.Size = IsSizeAnswer
IsPairAnswer (task.Plan pools writes why roots) =
    IsPlanAnswer record {
      pools = pools_value pools;
      writes = writes;
      why = why;
      roots = buses_of roots;
    }
IsPairAnswer (task.Settle request printed) = IsSettleAnswer request printed
IsPairAnswer (task.Probe assuming) = λ dump probe answer. ⊥

-- the task takes a whole dump and a whole probe: the verdict reads both side by side, and a derived probe takes sizes
abbrev pub IsOfWholePair : Task → Type 0
IsOfWholePair (task.Check roots) = ⊥
IsOfWholePair (task.Probe assuming) = ⊥
IsOfWholePair _ = Unit {0}

-- what each task answers to its two texts
abbrev pub IsTextsAnswer : Task → Option (List ℕ) → Option (List ℕ) → Answer → Type 0
IsTextsAnswer (task.Probe assuming) =
    IsAnswerTo AreSizesOf
    (λ dump sizes answer. answer ≡ probe_answer (assuming_of assuming) dump sizes)
IsTextsAnswer t = IsAnswerTo IsDumpOf (IsPairAnswer t)

-- the same where a third text is read or there is none
abbrev pub IsAnswerOf : Task → Option (List ℕ) → Option (List ℕ) → Answer → Type 0
IsAnswerOf t dump_left second_left answer =
    IsAlsoTold (also_of t) × IsTextsAnswer t dump_left second_left answer

-- an answer of the task, whose text is written and whose remarks are told
pub record IsTaskAnswered (task : Task) (dump_left second_left : Option (List ℕ)) (status : ℕ)
    (IsWritten AreTold : List ℕ → Type 0) : Type 0 where
  pub answer : Answer
  pub is : IsAnswerOf task dump_left second_left answer
  pub named : status ≡ answer.status
  pub written : IsWritten answer.text
  pub remarked : AreTold answer.remarks

-- a beginning of the answer was written
pub record IsAnswerBegun (task : Task)
    (dump_left second_left before after : Option (List ℕ)) : Type 0 where
  pub answer : Answer
  pub is : IsAnswerOf task dump_left second_left answer
  pub begun : AppendsBeginning before after answer.text

-- whether the second text is one of sizes, and no probe
abbrev pub takes_sizes : Task → Bool
takes_sizes (task.Probe assuming) = true
takes_sizes _ = false

-- the fault of the text that was left, where the bytes are told and none was met in reading
abbrev pub IsFaultOfLeft : (List ℕ → ReadFault → Type 0) → Option (List ℕ) → ReadFault → Type 0
IsFaultOfLeft IsFault left fault =
    (bytes : List ℕ) → left ≡ Some bytes → fault ≢ faults.Io → fault ≢ faults.Memory
    → IsFault bytes fault

abbrev pub HasDump : Option (List ℕ) → Type 0
HasDump left = (dump : List Block) × ((bytes : List ℕ) → left ≡ Some bytes → IsTextOf bytes dump)

-- why the texts aren't read: the second one's fault is told only where the dump's text is one, and a third one's only where
-- both are
abbrev pub IsFailureOf : Task → Option (List ℕ) → Option (List ℕ) → Failure → Type 0
IsFailureOf task dump_left second_left (Dump fault) = IsFaultOfLeft IsTextFault dump_left fault
IsFailureOf task dump_left second_left (Probe fault) =
    (takes_sizes task ≡ false) × HasDump dump_left × IsFaultOfLeft IsTextFault second_left fault
IsFailureOf task dump_left second_left (Sizes fault) =
    (takes_sizes task ≡ true) × HasDump dump_left × IsFaultOfLeft IsSizesTextFault second_left fault
IsFailureOf task dump_left second_left (Also fault) =
    IsAlsoFault task fault × HasDump dump_left × HasDump second_left
IsFailureOf task dump_left second_left Memory = Unit {0}
IsFailureOf task dump_left second_left _ = ⊥

-- a text isn't read, by a fault of it
abbrev pub IsTaskRefused : Task → Option (List ℕ) → Option (List ℕ) → Type 0
IsTaskRefused task dump_left second_left =
    (failure : Failure) × (status_of failure ≡ 2) × IsFailureOf task dump_left second_left failure

-- a read of the dump or of the second text failed, or a write
abbrev pub HasFailed : ℕ → ℕ → ℕ → ℕ → ℕ → ℕ → Type 0
HasFailed dump_before dump_after second_before second_after before after =
    (dump_after ≡ dump_before + 1) ⊎ (second_after ≡ second_before + 1) ⊎ (after ≡ before + 1)
