-- What stands below a heading.
use Rattle.std.specs.Prelude.{ℕ, List, [], ◌∷◌, ◌++◌}

-- a text below a heading, where there is any
abbrev pub section : List ℕ → List ℕ → List ℕ
section heading [] = []
section heading (x ∷ xs) = heading ++ (10 ∷ x ∷ xs)
