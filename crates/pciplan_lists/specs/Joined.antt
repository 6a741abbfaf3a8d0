-- Words that are joined by commas.
use Rattle.std.specs.Prelude.{◌≡◌, ℕ, List, [], ◌∷◌, ◌++◌, Option, None, Some}
use Rattle.std.specs.Borrow.{Bor}

-- a comma and the word of one thing, before the rest
pub record IsAhead {X : Type 0} (IsWord : List ℕ → X → Type 0) (text : List ℕ) (x : X)
    (rest : List ℕ) : Type 0 where
  pub word : List ℕ
  pub is : IsWord word x
  pub parts : text ≡ 44 ∷ word ++ rest

-- things in their order, a comma before each
abbrev pub AreJoined : {X : Type 0} → (List ℕ → X → Type 0) → List ℕ → List X → Type 0
AreJoined IsWord text [] = text ≡ []
AreJoined IsWord text (x ∷ more) =
    (rest : List ℕ) × IsAhead IsWord text x rest × AreJoined IsWord rest more

-- what is left of a list behind a part, with the comma before it
abbrev pub rest_with_comma : Option (Bor (List ℕ)) → List ℕ
rest_with_comma None = []
rest_with_comma (Some left) = 44 ∷ left.now
