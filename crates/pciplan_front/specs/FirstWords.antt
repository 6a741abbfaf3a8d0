-- Whose the words of a command line are.
use Rattle.std.specs.Prelude.{◌≡◌, ℕ, List, [], ◌∷◌, codes}
use Rattle.pciplan_front.specs.declared.first.First.{First}
use Rattle.pciplan_front.specs.declared.first.First.TheVariants.{Texts, Here, Explain, Version, Json, Picture}

-- the first word is this one
abbrev pub HasFirstWord : List (List ℕ) → List ℕ → Type 0
HasFirstWord [] name = ⊥
HasFirstWord (word ∷ rest) name = word ≡ name

-- the first word is none of the five, or there is none
pub record AreOfTexts (words : List (List ℕ)) : Type 0 where
  pub no_here : HasFirstWord words (codes "here") → ⊥
  pub no_explain : HasFirstWord words (codes "explain") → ⊥
  pub no_version : HasFirstWord words (codes "version") → ⊥
  pub no_json : HasFirstWord words (codes "json") → ⊥
  pub no_picture : HasFirstWord words (codes "picture") → ⊥

abbrev pub IsCommandOfWords : List (List ℕ) → First → Type 0
IsCommandOfWords words Texts = AreOfTexts words
IsCommandOfWords words Here = HasFirstWord words (codes "here")
IsCommandOfWords words Explain = HasFirstWord words (codes "explain")
IsCommandOfWords words Version = HasFirstWord words (codes "version")
IsCommandOfWords words Json = HasFirstWord words (codes "json")
IsCommandOfWords words Picture = HasFirstWord words (codes "picture")

-- the words behind the first one
abbrev pub behind_first_word : List (List ℕ) → List (List ℕ)
behind_first_word [] = []
behind_first_word (word ∷ rest) = rest
