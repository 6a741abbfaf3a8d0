-- What is answered to a dump and its probe with what is told beside them.
use Rattle.std.specs.Prelude.{◌≡◌, List, [], ◌∷◌, Option, None, Some}
use Rattle.pci_spec.specs.Slot.{Slot}
use Rattle.pci_spec.specs.Text.{Block, slots_of}
use Rattle.pci_spec.specs.System.{system_of}
use Rattle.judge_spec.specs.Told.{ToldRange}
use Rattle.judge_spec.specs.ToldClaims.{Told}
use Rattle.judge_spec.specs.Asleep.{AreAsleepBy}
use Rattle.pci_model.specs.declared.words.Words.{Words}
use Rattle.pci_model.specs.WordsValue.{words_value}
use Rattle.pciplan_tasks.specs.Also.{ranges_told}
use Rattle.pciplan_tasks.specs.Answers.{Answer}
use Rattle.pciplan_tasks.specs.TakenAnswers.{IsAnswerBy}
use Rattle.pciplan_tasks.specs.declared.task.Beside.{Beside}

-- The slots of functions that words take as asleep, of the two as they are. Told ranges alone ask for them, so of none of
-- these there are none.
abbrev pub AreAsleepFor : List ToldRange → Option Words → List Block → List Block → List Slot → Type 0
AreAsleepFor [] words dump probe slots = slots ≡ []
AreAsleepFor (range ∷ ranges) None dump probe slots = slots ≡ []
AreAsleepFor (range ∷ ranges) (Some words) dump probe slots =
    slots_of dump ≡ slots_of probe
    → AreAsleepBy (words_value words) (system_of dump probe) slots

-- the ranges of the third text, and the functions that are asleep
pub record IsToldBeside (beside : Beside) (dump probe : List Block) (told : Told) : Type 0 where
  pub ranges : told.ranges ≡ ranges_told beside.also
  pub asleep : AreAsleepFor told.ranges beside.words dump probe told.asleep

-- What is answered to the two as words take them, with what is told of them as they are.
pub record IsAnswerWithTold (beside : Beside)
    (Means : Told → List Block → List Block → Answer → Type 0) (dump probe : List Block)
    (answer : Answer) : Type 0 where
  pub told : Told
  pub beside_them : IsToldBeside beside dump probe told
  pub is : IsAnswerBy beside.words (Means told) dump probe answer
