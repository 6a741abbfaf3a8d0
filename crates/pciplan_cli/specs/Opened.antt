-- What a file has left.
use Rattle.std.specs.Prelude.{ℕ, List, [], ◌∷◌, Option, None, Some}

-- nothing is told of an open file; a closed one has what no read gives, a value that is no byte, so that every read fails
abbrev pub file_left : {File : Type 0} → Option File → Option (List ℕ)
file_left (Some file) = None
file_left None = Some (256 ∷ [])
