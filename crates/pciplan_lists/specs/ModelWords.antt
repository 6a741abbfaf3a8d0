-- The words of `--model`.
use Rattle.std.specs.Prelude.{◌≡◌, ◌⊎◌, ℕ, List, ◌∷◌, codes}
use Rattle.judge_spec.specs.ModelWords.{Words, Name, name_text, AreNames, all_words}
use Rattle.pciplan_lists.specs.Joined.{AreJoined}

abbrev pub IsNameWord : List ℕ → Name → Type 0
IsNameWord word n = word ≡ name_text n

-- the words that count, in any order, joined by commas: with a comma before the first too, each has one
pub record IsWordList (word : List ℕ) (w : Words) : Type 0 where
  pub names : List Name
  pub joined : AreJoined IsNameWord (44 ∷ word) names
  pub are : AreNames names w

-- `all`, or such a list
abbrev pub IsModelWord : List ℕ → Words → Type 0
IsModelWord word w = ((word ≡ codes "all") × (w ≡ all_words)) ⊎ IsWordList word w
