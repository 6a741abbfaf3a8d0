-- The addresses of a range that no range of a list has.
use Rattle.std.specs.Prelude.{ℕ, ◌+◌, ◌<◌, ◌≤◌, ◌↔◌, List, length, slice_index_or}
use Rattle.pci_base.specs.declared.range.Range.{Range}
use Rattle.pci_tree.specs.Ranges.{Holds, Covers, IsCanonical}

-- an address of the range from one number on and before another
abbrev pub IsBetween : Range → ℕ → ℕ → ℕ → Type 0
IsBetween range from end a = Holds range a × (from ≤ a) × (a < end)

-- just the addresses of the range that the list hasn't, with a gap between two ranges
pub record IsOutsideRange (range : Range) (ranges out : List Range) : Type 0 where
  pub canonical : IsCanonical out
  pub exact : (a : ℕ) → Covers out a ↔ (Holds range a × (Covers ranges a → ⊥))

-- just the addresses of the first list that the second hasn't, with a gap between two ranges
pub record IsWithout (addresses ranges out : List Range) : Type 0 where
  pub canonical : IsCanonical out
  pub exact : (a : ℕ) → Covers out a ↔ (Covers addresses a × (Covers ranges a → ⊥))

-- those before a number, where the ranges so far end before it and the next one, if any, begins there or behind it
pub record IsOutsideBefore (range : Range) (ranges part : List Range) (k from : ℕ)
    (out : List Range) : Type 0 where
  pub canonical : IsCanonical out
  pub exact : (a : ℕ) → Covers out a ↔ (Holds range a × (Covers part a → ⊥) × (a < from))
  pub past : (a : ℕ) → Covers part a → a < from
  pub below : (a : ℕ) → Covers out a → a + 1 < from
  pub next : (d : Range) → k < length ranges → from ≤ (slice_index_or ranges k d).first
