-- Laws of `faults` and `map` where nothing is given or told beside the two texts.
use Rattle.std.specs.Prelude.{◌≡◌, ◌↔◌, ℕ, Bool, false, List, [], ◌∷◌, Option, None}
use Rattle.pci_spec.specs.Slot.{Slot}
use Rattle.pci_spec.specs.Text.{Block, IsDump}
use Rattle.pci_spec.specs.System.{System, system_of}
use Rattle.pci_spec.specs.Fault.{Fault}
use Rattle.pci_spec.specs.FaultLines.{AreAllFaults}
use Rattle.pci_spec.specs.FaultsText.{IsFaultsText}
use Rattle.pci_spec.specs.Order.{IsFirstThere}
use Rattle.pci_spec.specs.Mark.{all_named}
use Rattle.pci_check.specs.Audits.{ArePlainlySound}
use Rattle.judge_spec.specs.Given.{Given, nothing_given}
use Rattle.judge_spec.specs.ToldClaims.{Told, nothing_told}
use Rattle.pciplan_tasks.specs.Answers.{Answer}
use Rattle.pci_model.specs.declared.words.Words.{Words}
use Rattle.pciplan_tasks.specs.FaultsAnswers.{AreTold, AreToldTaking, given_of, isa_of, list_answer, snoop_of, taking_of, unclaimed_of, vga_of}
use Rattle.pciplan_tasks.specs.MapAnswers.{IsNoMap}
use Rattle.pciplan_tasks.specs.PlanAnswers.{IsRefusedText}
use Rattle.pciplan_tasks.specs.ToldAnswers.{IsToldBeside}
use Rattle.pciplan_tasks.specs.declared.task.Also.TheVariants as also
use Rattle.pciplan_tasks.specs.declared.task.Beside.{Beside}

-- where there is a line, the first one is of the fault that is looked for first of those that are there
abbrev pub FirstLineIsVerdict : List ℕ → List Block → List Block → List Fault → Type 0
FirstLineIsVerdict roots dump probe [] = Unit {0}
FirstLineIsVerdict roots dump probe (fault ∷ rest) = IsFirstThere roots dump probe fault

-- All faults without what is given and told, of which the first is the one that `check` names; none exactly where it says yes.
pub record ArePlainTold (roots : List ℕ) (why : Bool) (dump probe : List Block)
    (answer : Answer) : Type 0 where
  pub faults : List Fault
  pub all : AreAllFaults roots dump probe faults
  pub first : FirstLineIsVerdict roots dump probe faults
  pub none : (faults ≡ []) ↔ ArePlainlySound roots dump probe
  pub text : List ℕ
  pub is : IsFaultsText (all_named probe) roots (system_of dump probe) why faults text
  pub line : answer ≡ list_answer faults text

-- With nothing given and told that is what `faults` tells, whoever is asleep.
abbrev pub PlainWithNothingGiven : Type 0
PlainWithNothingGiven =
    (asleep : List Slot) (roots : List ℕ) (why : Bool) (dump probe : List Block) (answer : Answer)
    → IsDump dump → IsDump probe
    → AreTold (nothing_told asleep) nothing_given roots why dump probe answer
    → ArePlainTold roots why dump probe answer

-- Nothing is given where no list is said of what the host sends, and no word takes VGA Enable, ISA Enable or VGA Palette
-- Snoop.
abbrev pub NothingSaidGivesNothing : Type 0
NothingSaidGivesNothing =
    (beside : Beside) (dump : List Block) → beside.host.io ≡ None → beside.host.mem ≡ None
    → vga_of beside.words ≡ None → isa_of beside.words ≡ false → snoop_of beside.words ≡ false
    → given_of beside.host beside.words dump ≡ nothing_given

-- Where the word for it doesn't count, no bridge takes what nobody claims,
abbrev pub NothingSaidTakesNothing : Type 0
NothingSaidTakesNothing =
    (words : Option Words) (s : System) → unclaimed_of words ≡ false → taking_of words s ≡ []

-- so the answer is what is told by what is given alone.
abbrev pub NothingTakenTellsTheSame : Type 0
NothingTakenTellsTheSame =
    (told : Told) (given : Given) (roots : List ℕ) (why : Bool) (dump probe : List Block)
    (answer : Answer) → IsDump dump → IsDump probe → given.unclaimed ≡ []
    → AreToldTaking told given roots [] why dump probe answer
    → AreTold told given roots why dump probe answer

-- Nothing is told where there is no third text, or an empty one.
abbrev pub NothingSaidTellsNothing : Type 0
NothingSaidTellsNothing =
    (beside : Beside) (dump probe : List Block) (told : Told) → beside.also ≡ also.Told []
    → IsToldBeside beside dump probe told → told ≡ nothing_told []

-- With nothing told the line in the place of a map is of the fault that is looked for first of those that are there, before
-- judging.
abbrev pub NoMapNamesTheFirst : Type 0
NoMapNamesTheFirst =
    (asleep : List Slot) (given : Given) (roots : List ℕ) (dump probe : List Block) (answer : Answer)
    → IsDump dump → IsDump probe → IsNoMap (nothing_told asleep) given roots dump probe answer
    → IsRefusedText roots dump probe answer
