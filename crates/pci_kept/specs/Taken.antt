-- Ranges that share no address, by rising addresses.
use Rattle.std.specs.Prelude.{◌≡◌, ◌≢◌, ℕ, ◌<◌, ◌≤◌, Bool, true, false, List, [], length, slice_index_or}
use Rattle.std.specs.List.{list_all, insert, AllWithin}
use Rattle.pci_spec.specs.System.{Space, Io, Memory}
use Rattle.settle_spec.specs.FirstPlace.{ranges_are_apart}
use Rattle.pci_base.specs.declared.range.Range.{Range}
use Rattle.pci_base.specs.Ranges.{decoded_range_of}

-- each ends before the next begins, and has an address
pub record AreApartInOrder (taken : List Range) : Type 0 where
  pub order : (j k : ℕ) (d : Range) → j < k → k < length taken
      → (slice_index_or taken j d).last < (slice_index_or taken k d).first
  pub forward : (k : ℕ) (d : Range) → k < length taken
      → (slice_index_or taken k d).first ≤ (slice_index_or taken k d).last

-- whether none of them has an address of a range
abbrev pub is_free : Range → List Range → Bool
is_free r taken =
    list_all (λ t. ranges_are_apart (decoded_range_of t) (decoded_range_of r)) taken

-- ranges before an index end below a range, and those from there on begin above it
pub record IsGap (taken : List Range) (r : Range) (index : ℕ) : Type 0 where
  pub bound : index ≤ length taken
  pub before : AllWithin (λ x. x.last < r.first) taken 0 index
  pub above : (d : Range) → index < length taken → r.last < (slice_index_or taken index d).first

-- one more range, or none
abbrev pub IsWithTaken : Bool → Range → List Range → List Range → Type 0
IsWithTaken false r old new = new ≡ old
IsWithTaken true r old new = (k : ℕ) × (k ≤ length old) × (new ≡ insert old k r)

-- ---- of both spaces

abbrev pub in_space : Space → List Range → List Range → List Range
in_space Io io mem = io
in_space Memory io mem = mem

abbrev pub in_other : Space → List Range → List Range → List Range
in_other Io io mem = mem
in_other Memory io mem = io

-- what is taken on a bus: 0 for the roots, else one more than its number, and the ranges of each space
pub record Taken : Type 0 where
  pub level : ℕ
  pub io : List Range
  pub mem : List Range

abbrev pub taken_with : ℕ → List Range → List Range → Taken
taken_with level io mem = record { level = level; io = io; mem = mem }

-- on the bus where one was before the same is taken, and on another one nothing
pub record IsGoneTo (level : ℕ) (old new : Taken) : Type 0 where
  pub there : new.level ≡ level
  pub same : old.level ≡ level → (new.io ≡ old.io) × (new.mem ≡ old.mem)
  pub other : old.level ≢ level → (new.io ≡ []) × (new.mem ≡ [])
