-- What is answered to a dump and its probe as words take them.
use Rattle.std.specs.Prelude.{◌≡◌, List, Option, None, Some}
use Rattle.pci_spec.specs.Text.{Block}
use Rattle.judge_spec.specs.TakenDumps.{AreTakenAs}
use Rattle.pci_model.specs.declared.words.Words.{Words}
use Rattle.pci_model.specs.WordsValue.{words_value}
use Rattle.pciplan_tasks.specs.Answers.{Answer}

-- the two as they are taken: without words as they are
abbrev pub AreTakenByWords : Option Words → List Block → List Block → List Block → List Block → Type 0
AreTakenByWords None dump probe taken taken_probe = (taken ≡ dump) × (taken_probe ≡ probe)
AreTakenByWords (Some words) dump probe taken taken_probe =
    AreTakenAs (words_value words) dump probe taken taken_probe

-- what is answered to the two as they are taken
pub record IsAnswerBy (words : Option Words) (Means : List Block → List Block → Answer → Type 0)
    (dump probe : List Block) (answer : Answer) : Type 0 where
  pub taken : List Block
  pub taken_probe : List Block
  pub are : AreTakenByWords words dump probe taken taken_probe
  pub means : Means taken taken_probe answer
