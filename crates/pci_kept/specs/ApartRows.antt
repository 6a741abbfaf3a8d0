-- Rows that share no address with each other, by rising keys and addresses.
use Rattle.std.specs.Prelude.{◌≡◌, ℕ, ◌<◌, ◌≤◌, ◌⊎◌, ◌==◌, Bool, true, false, ◌||◌, not, List, length, slice_index_or}
use Rattle.std.specs.List.{list_all, insert}
use Rattle.settle_spec.specs.FirstPlace.{ranges_are_apart}
use Rattle.pci_base.specs.Ranges.{decoded_range_of}
use Rattle.pci_kept.specs.declared.rows.Row.{Row}

-- one is of a lower key, or of the same one and ends before the other begins
abbrev pub IsRowBelow : Row → Row → Type 0
IsRowBelow r t = (r.key < t.key) ⊎ ((r.key ≡ t.key) × (r.range.last < t.range.first))

pub record AreApartRows (rows : List Row) : Type 0 where
  pub order : (j k : ℕ) (d : Row) → j < k → k < length rows
      → IsRowBelow (slice_index_or rows j d) (slice_index_or rows k d)
  pub forward : (k : ℕ) (d : Row) → k < length rows
      → (slice_index_or rows k d).range.first ≤ (slice_index_or rows k d).range.last

-- whether no row of its key has an address of a row
abbrev pub is_row_off : Row → Row → Bool
is_row_off row r =
    not (r.key == row.key) || ranges_are_apart (decoded_range_of r.range) (decoded_range_of row.range)

abbrev pub is_row_free : Row → List Row → Bool
is_row_free row rows = list_all (is_row_off row) rows

-- a row is put between those that are below it and those that are above
pub record IsRowGap (rows : List Row) (row : Row) (index : ℕ) : Type 0 where
  pub bound : index ≤ length rows
  pub below : (k : ℕ) (d : Row) → k < index → IsRowBelow (slice_index_or rows k d) row
  pub above : (k : ℕ) (d : Row) → index ≤ k → k < length rows → IsRowBelow row (slice_index_or rows k d)

-- one more row, or none
abbrev pub IsWithRow : Bool → Row → List Row → List Row → Type 0
IsWithRow false row old new = new ≡ old
IsWithRow true row old new = (k : ℕ) × (k ≤ length old) × (new ≡ insert old k row)
