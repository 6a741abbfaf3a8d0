-- The texts of `explain` and `version`.
use Rattle.std.specs.Prelude.{◌≡◌, ◌⊎◌, ℕ, List, None, Some, codes}
use Rattle.std.specs.Io.KnownBytes.{Appends}
use Rattle.pci_dump.specs.Begun.{AppendsBeginning}
use Rattle.pciplan_front.specs.Explained.{all_names, text_of_word}
use Rattle.pciplan_words.specs.FurtherWords.{IsFurther, IsNoFurther}
use Rattle.pciplan_words.specs.declared.further.Further.{Further}
use Rattle.pciplan_words.specs.declared.further.Further.TheVariants.{Here, Explain, Version}
use Rattle.pciplan_front.specs.Went.{Went}

-- the text of a command: what explains the word, all names where there is no word, and the version
abbrev pub IsFurtherText : Further → List ℕ → Type 0
IsFurtherText (Here words) text = ⊥
IsFurtherText (Explain None) text = text ≡ all_names
IsFurtherText (Explain (Some word)) text = text_of_word word.now ≡ Some text
IsFurtherText Version text = text ≡ codes "pciplan 0.5\n"

-- the text that the words ask for
pub record IsTextAsked (words : List (List ℕ)) (text : List ℕ) : Type 0 where
  pub asked : Further
  pub given : IsFurther words asked
  pub is : IsFurtherText asked text

-- the words are no command line, or nothing is explained by the word
abbrev pub AskForNoText : List (List ℕ) → Type 0
AskForNoText words =
    IsNoFurther words
    ⊎ ((asked : Further) × IsFurther words asked × ((text : List ℕ) → IsFurtherText asked text → ⊥))

-- what `explain` or `version` did
pub record IsTextCommand (words : List (List ℕ)) (status : ℕ) (out : Went) : Type 0 where
  pub done : status ≡ 0
      → (text : List ℕ) × IsTextAsked words text × Appends out.before out.after text
  pub refused : status ≡ 2 → AskForNoText words
  pub quiet : (status ≡ 2) ⊎ (status ≡ 3) → out.same
  pub begun : status ≡ 4
      → (text : List ℕ) × IsTextAsked words text × AppendsBeginning out.before out.after text
  pub failed : status ≡ 4 → out.failed
  pub known : (status ≡ 0) ⊎ (status ≡ 2) ⊎ (status ≡ 3) ⊎ (status ≡ 4)
