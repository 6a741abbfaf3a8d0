-- The parts that stand, row by row: those of a bus and a space, by rising addresses.
use Rattle.std.specs.Prelude.{◌≡◌, ℕ, ◌+◌, ◌-◌, ◌<◌, ◌≤◌, ◌⊎◌, List, length, slice_index_or}
use Rattle.std.specs.List.{AllPairs, Contains, filter}
use Rattle.std.specs.List.Sorted.{IsPermutation}
use Rattle.pci_spec.specs.System.{System}
use Rattle.pci_spec.specs.Decoded.{Range as DecodedRange}
use Rattle.settle_spec.specs.Lists.{Request}
use Rattle.pci_base.specs.Ranges.{decoded_range_of}
use Rattle.pci_base.specs.Space.{space_of}
use Rattle.pci_base.specs.declared.range.Range.{Range}
use Rattle.pci_first_fit.specs.declared.kept.Kept.{Kept}
use Rattle.pci_kept.specs.declared.region.Region.{Region}
use Rattle.pci_kept.specs.Held.{is_region_kept}
use Rattle.pci_kept.specs.Known.{AreParts}
use Rattle.pci_kept.specs.Passing.{AreStanding}
use Rattle.pci_grow.specs.RoomRows.{row_number}

abbrev pub region_row_number : Region → ℕ
region_row_number r = row_number r.level (space_of r.space)

-- a part begins below another, or with it and is of a lower number
abbrev pub IsLower : (Region → ℕ) → Region → Region → Type 0
IsLower number r t =
    (r.range.first < t.range.first)
    ⊎ ((r.range.first ≡ t.range.first) × (number r < number t))

-- it is of a lower row, or comes first in the same one
abbrev pub IsInRowOrder : (Region → ℕ) → Region → Region → Type 0
IsInRowOrder number r t = (region_row_number r < region_row_number t) ⊎ ((region_row_number r ≡ region_row_number t) × IsLower number r t)

-- the parts that a table tells to stand, in that order by any number that rises along all parts
pub record AreRowsOfStanding (regions : List Region) (standing : List Kept) (rows : List Region) : Type 0 where
  pub same : IsPermutation (filter (is_region_kept standing) regions) rows
  pub order : (number : Region → ℕ) → AllPairs (λ r t. number r < number t) regions
      → AllPairs (IsInRowOrder number) rows

-- the rows have all parts of a system that stand: a table tells exactly which do
pub record HasRows (q : Request) (s : System) (rows : List Region) : Type 0 where
  pub regions : List Region
  pub standing : List Kept
  pub parts : AreParts q s regions
  pub stand : AreStanding q s standing
  pub sorted : AreRowsOfStanding regions standing rows

-- ---- next to a part in its row

-- the part before one is in its row too, and has these addresses
pub record IsRangeBeforeInRow (rows : List Region) (index : ℕ) (r : Range) : Type 0 where
  pub some : 0 < index
  pub row : (d : Region) → region_row_number (slice_index_or rows (index - 1) d) ≡ region_row_number (slice_index_or rows index d)
  pub range : (d : Region) → r ≡ (slice_index_or rows (index - 1) d).range

-- all before it are in lower rows
abbrev pub AreAllInLowerRows : List Region → ℕ → Type 0
AreAllInLowerRows rows index =
    (k : ℕ) (d : Region) → k < index
    → region_row_number (slice_index_or rows k d) < region_row_number (slice_index_or rows index d)

-- the part behind one is in its row too, and has these addresses
pub record IsRangeBehindInRow (rows : List Region) (index : ℕ) (r : Range) : Type 0 where
  pub some : index + 1 < length rows
  pub row : (d : Region) → region_row_number (slice_index_or rows (index + 1) d) ≡ region_row_number (slice_index_or rows index d)
  pub range : (d : Region) → r ≡ (slice_index_or rows (index + 1) d).range

-- all behind it are in higher rows
abbrev pub AreAllInHigherRows : List Region → ℕ → Type 0
AreAllInHigherRows rows index =
    (k : ℕ) (d : Region) → index < k → k < length rows
    → region_row_number (slice_index_or rows index d) < region_row_number (slice_index_or rows k d)

-- ---- where parts of a row share no address

-- none is backward, and each ends before those behind it in its row begin
pub record AreApartInRows (rows : List Region) : Type 0 where
  pub forward : (k : ℕ) (d : Region) → k < length rows
      → (slice_index_or rows k d).range.first ≤ (slice_index_or rows k d).range.last
  pub apart : (j k : ℕ) (d : Region) → j < k → k < length rows
      → region_row_number (slice_index_or rows j d) ≡ region_row_number (slice_index_or rows k d)
      → (slice_index_or rows j d).range.last < (slice_index_or rows k d).range.first

-- a part is another one of a row
pub record IsOtherOfRow (rows : List Region) (index k : ℕ) : Type 0 where
  pub within : k < length rows
  pub other : k ≡ index → ⊥
  pub row : (d : Region) → region_row_number (slice_index_or rows k d) ≡ region_row_number (slice_index_or rows index d)

-- a part of that index has these addresses
pub record IsRangeBeside (rows : List Region) (index : ℕ) (t : DecodedRange) : Type 0 where
  pub k : ℕ
  pub beside : IsOtherOfRow rows index k
  pub range : (d : Region) → decoded_range_of (slice_index_or rows k d).range ≡ t

-- these are the addresses of all others of its row
pub record AreOtherRangesOfRow (rows : List Region) (index : ℕ) (ts : List DecodedRange) : Type 0 where
  pub each : (t : DecodedRange) → Contains ts t → IsRangeBeside rows index t
  pub all : (k : ℕ) (d : Region) → IsOtherOfRow rows index k
      → Contains ts (decoded_range_of (slice_index_or rows k d).range)
