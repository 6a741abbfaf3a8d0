-- Ranges as rows by bus and space, and how far the rows up to one reach.
use Rattle.std.specs.Prelude.{◌≡◌, ◌≢◌, ℕ, ◌<◌, ◌≤◌, ◌⊎◌, ◌==◌, nat_le, nat_lt, Bool, if◌then◌else◌, false, ◌&&◌, not, List, Option, None, Some, length, slice_index_or}
use Rattle.std.specs.List.{AllPairs, list_any}
use Rattle.settle_spec.specs.FirstPlace.{ranges_are_apart}
use Rattle.pci_base.specs.declared.range.Range.{Range}
use Rattle.pci_base.specs.Ranges.{decoded_range_of}
use Rattle.pci_kept.specs.declared.rows.Row.{Row}
use Rattle.pci_kept.specs.declared.rows.Reach.{Reach}

-- one is of a lower key, or of the same one, and doesn't begin above
abbrev pub IsRowBefore : Row → Row → Type 0
IsRowBefore r t = (r.key < t.key) ⊎ ((r.key ≡ t.key) × (r.range.first ≤ t.range.first))

abbrev pub AreRows : List Row → Type 0
AreRows rows = AllPairs IsRowBefore rows

-- a row keeps off a range, but not one of its owner's
abbrev pub row_keeps_others_off : ℕ → ℕ → Range → Row → Bool
row_keeps_others_off key owner range r =
    r.key == key && not (r.owner == owner)
    && not (ranges_are_apart (decoded_range_of r.range) (decoded_range_of range))

abbrev pub rows_keep_off : List Row → ℕ → ℕ → Range → Bool
rows_keep_off rows key owner range = list_any (row_keeps_others_off key owner range) rows

-- ---- how far rows reach

-- a row up to one, of the same key
pub record IsRowUpTo (rows : List Row) (k : ℕ) (j : ℕ) (r : Row) : Type 0 where
  pub le : j ≤ k
  pub at : slice_index_or rows j r ≡ r
  pub key : r.key ≡ (slice_index_or rows k r).key

-- where a row of some ends last
pub record EndsLast (rows : List Row) (k : ℕ) (last : ℕ) (of : Row → Type 0) : Type 0 where
  pub j : ℕ
  pub row : Row
  pub there : IsRowUpTo rows k j row
  pub is : of row
  pub ends : row.range.last ≡ last

abbrev pub IsCovered : Option ℕ → ℕ → Type 0
IsCovered None n = n < 0
IsCovered (Some m) n = n ≤ m

-- of the rows up to one of its key: where the last of all ends, whose it is, and where the last of all others does
pub record IsRowReach (rows : List Row) (k : ℕ) (x : Reach) : Type 0 where
  pub all : (j : ℕ) (r : Row) → IsRowUpTo rows k j r → r.range.last ≤ x.last
  pub at : EndsLast rows k x.last (λ r. r.owner ≡ x.owner)
  pub rest : (j : ℕ) (r : Row) → IsRowUpTo rows k j r → r.owner ≢ x.owner → IsCovered x.others r.range.last
  pub other : (n : ℕ) → x.others ≡ Some n → EndsLast rows k n (λ r. r.owner ≢ x.owner)

pub record AreReaches (rows : List Row) (reaches : List Reach) : Type 0 where
  pub size : length reaches ≡ length rows
  pub each : (k : ℕ) (d : Reach) → k < length rows → IsRowReach rows k (slice_index_or reaches k d)

-- ---- how far they reach, row by row

abbrev pub later : ℕ → ℕ → ℕ
later m n = if nat_lt m n then n else m

abbrev pub later_of : Option ℕ → ℕ → ℕ
later_of None n = n
later_of (Some m) n = later m n

abbrev pub row_reach : Row → Reach
row_reach r = record { owner = r.owner; last = r.range.last; others = None }

-- with one row more
abbrev pub reach_with : Reach → Row → Reach
reach_with x r =
    if r.owner == x.owner then record { owner = x.owner; last = later x.last r.range.last; others = x.others }
    else if nat_lt x.last r.range.last
    then record { owner = r.owner; last = r.range.last; others = Some x.last }
    else record { owner = x.owner; last = x.last; others = Some (later_of x.others r.range.last) }

abbrev pub ends_at : Option ℕ → ℕ → Bool
ends_at None a = false
ends_at (Some n) a = nat_le a n

-- whether a row that isn't of an owner ends at an address or above
abbrev pub reaches_to : Reach → ℕ → ℕ → Bool
reaches_to x owner a = if x.owner == owner then ends_at x.others a else nat_le a x.last
