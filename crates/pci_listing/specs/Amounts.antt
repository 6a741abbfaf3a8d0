-- The letters of units.
use Rattle.std.specs.Prelude.{ℕ, zero, suc, List, [], ◌∷◌, codes, slice_index}

-- the letter for so many times 1024
abbrev pub unit_text : ℕ → List ℕ
unit_text zero = []
unit_text (suc n) = slice_index (codes "KMGTPE") n ∷ []
