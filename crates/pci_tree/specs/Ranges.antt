-- Ranges of addresses, and lists of them.
use Rattle.std.specs.Prelude.{ℕ, ◌+◌, ◌<◌, ◌≤◌, List}
use Rattle.std.specs.List.{All, Any, AllPairs}
use Rattle.pci_base.specs.declared.range.Range.{Range}

-- the range has the address
abbrev pub Holds : Range → ℕ → Type 0
Holds r a = (r.first ≤ a) × (a ≤ r.last)

-- a range of the list has the address
abbrev pub Covers : List Range → ℕ → Type 0
Covers rs a = Any (λ r. Holds r a) rs

-- the ranges rise, with at least one address between two of them
pub record IsCanonical (rs : List Range) : Type 0 where
  pub each : All (λ r. r.first ≤ r.last) rs
  pub apart : AllPairs (λ r s. r.last + 1 < s.first) rs

-- the least address of a range that no range of the list has
pub record IsLeastOutside (r : Range) (rs : List Range) (a : ℕ) : Type 0 where
  pub held : Holds r a
  pub outside : Covers rs a → ⊥
  pub least : (b : ℕ) → b < a → Holds r b → Covers rs b

-- the least address of the list from an address on
pub record IsLeastFrom (rs : List Range) (from a : ℕ) : Type 0 where
  pub from_on : from ≤ a
  pub covered : Covers rs a
  pub least : (b : ℕ) → from ≤ b → b < a → Covers rs b → ⊥
