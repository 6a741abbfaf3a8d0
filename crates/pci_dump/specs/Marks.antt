-- The register at the front of a text.
use Rattle.std.specs.Prelude.{ℕ, ◌==◌, nat_lt, if◌then◌else◌, List, Option, None, length, slice_index}
use Rattle.pci_spec.specs.Mark.{digit, two_of}

-- that of a separator and two digits; None where the text begins otherwise
abbrev pub register_at : ℕ → List ℕ → Option ℕ
register_at separator text =
    if nat_lt (length text) 3 then None
    else if slice_index text 0 == separator
    then two_of (digit (slice_index text 1)) (digit (slice_index text 2)) else None
