-- The pieces of a range that lie between others.
use Rattle.std.specs.Prelude.{ℕ, ◌+◌, ◌-◌, nat_lt, if◌then◌else◌, List, [], ◌∷◌, ◌++◌, max, min}
use Rattle.pci_base.specs.declared.range.Range.{Range}

-- from one number up to another, if there is an address between
abbrev pub piece : ℕ → ℕ → List Range
piece first end = if nat_lt first end then record { first = first; last = end - 1 } ∷ [] else []

-- the addresses of a range from one number on and before another
abbrev pub between : Range → ℕ → ℕ → List Range
between range from end = piece (max from range.first) (min end (range.last + 1))

-- those from a number on that none of some ranges has, which stand by first address
unfoldable pub gaps : Range → ℕ → List Range → List Range
gaps range from [] = between range from (range.last + 1)
gaps range from (r ∷ rs) = between range from r.first ++ gaps range (max from (r.last + 1)) rs
