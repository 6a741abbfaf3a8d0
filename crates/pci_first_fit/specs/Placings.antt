-- Items at the places of a table, each of them wanted at a place that is told, or in one of many lists of ranges.
use Rattle.std.specs.Prelude.{ℕ, ◌≡◌, ◌<◌, ◌^◌, List, [], ◌∷◌, ◌++◌, map, length, drop, slice_index_or, Option, None, Some, IfSome}
use Rattle.pci_spec.specs.Decoded.{Range as DecodedRange}
use Rattle.plan_spec.specs.Place.{range_from}
use Rattle.settle_spec.specs.FirstPlace.{Extent, else_at, first_place}
use Rattle.settle_spec.specs.Items.{PlacingItem, Placed, Placing, AllPlaced, Lacks}
use Rattle.pci_base.specs.declared.range.Range.{Range}
use Rattle.pci_base.specs.Ranges.{decoded_range_of}
use Rattle.pci_first_fit.specs.declared.placing.Wanted.{Wanted}
use Rattle.pci_first_fit.specs.declared.placing.Cursor.{Cursor}
use Rattle.pci_first_fit.specs.Spots.{extent_value, IsExtent, IsStart}

abbrev pub item_extent : PlacingItem → Extent
item_extent i = i.extent

-- ---- what is wanted

-- there is such a list, and a place that is told ends in 64 bits
pub record HasListAt (lists : ℕ) (w : Wanted) : Type 0 where
  pub extent : IsExtent w.extent
  pub list : w.list < lists
  pub ends : IfSome w.at (λ a. (range_from a w.extent.size).last < 2 ^ 64)

-- the first place in the ranges of a list
abbrev pub place_by_list : List (List Range) → List DecodedRange → Wanted → Option ℕ
place_by_list lists taken w =
    first_place (map decoded_range_of (slice_index_or lists w.list [])) taken (extent_value w.extent)

-- the place that is told, or else that
abbrev pub wanted_place : List (List Range) → List DecodedRange → Wanted → Option ℕ
wanted_place lists taken w = else_at w.at (place_by_list lists taken w)

-- an item has this extent, and this place is found for it, whatever is taken
pub record IsWanted (lists : List (List Range)) (behind : List Range)
    (find : PlacingItem → List DecodedRange → Option ℕ) (i : PlacingItem) (w : Wanted) : Type 0 where
  pub extent : i.extent ≡ extent_value w.extent
  pub place : (taken : List DecodedRange)
      → find i taken ≡ wanted_place lists (map decoded_range_of behind ++ taken) w

-- each off what is behind it, by index: nothing is behind those past the end
pub record AreWanted (lists behind : List (List Range)) (find : PlacingItem → List DecodedRange → Option ℕ)
    (items : List PlacingItem) (wanted : List Wanted) : Type 0 where
  pub count : length items ≡ length wanted
  pub each : (k : ℕ) (i : PlacingItem) (w : Wanted) → k < length wanted
      → IsWanted lists (slice_index_or behind k []) find (slice_index_or items k i) (slice_index_or wanted k w)

-- another extent is placed by what is taken as one is by that and by what is behind it
pub record IsPlacedAs (lists : List (List Range)) (behind taken : List DecodedRange) (w ready : Wanted) : Type 0 where
  pub extent : ready.extent ≡ w.extent
  pub place : wanted_place lists taken ready ≡ wanted_place lists (behind ++ taken) w

-- one that is, or none where there is no place
abbrev pub IsWantedReady : ℕ → List (List Range) → List DecodedRange → List DecodedRange → Wanted → Option Wanted → Type 0
IsWantedReady count lists behind taken w None = wanted_place lists (behind ++ taken) w ≡ None
IsWantedReady count lists behind taken w (Some ready) =
    HasListAt count ready × IsPlacedAs lists behind taken w ready

-- a list can be searched for this extent from there on
pub record IsCursor (ranges taken : List Range) (c : Cursor) : Type 0 where
  pub extent : IsExtent c.extent
  pub start : IsStart ranges taken c.extent c.start

-- each list has its cursor
pub record AreCursors (lists : List (List Range)) (taken : List Range) (cursors : List Cursor) : Type 0 where
  pub count : length cursors ≡ length lists
  pub each : (k : ℕ) (d : Cursor) → k < length lists
      → IsCursor (slice_index_or lists k []) taken (slice_index_or cursors k d)

-- ---- places

-- so many of what is wanted end in 64 bits at the places of a table
abbrev pub AreEnding : List Wanted → List ℕ → ℕ → Type 0
AreEnding wanted places count =
    (k : ℕ) (w : Wanted) → k < count
    → (range_from (slice_index_or places k 0) (slice_index_or wanted k w).extent.size).last < 2 ^ 64

-- each item with its place
abbrev pub at_places : List PlacingItem → List ℕ → List Placed
at_places [] places = []
at_places (i ∷ items) [] = []
at_places (i ∷ items) (a ∷ places) = record { item = i; at = a } ∷ at_places items places

abbrev pub lacks_first : List PlacingItem → Placing
lacks_first [] = AllPlaced []
lacks_first (i ∷ items) = Lacks i

-- what a table and the number of the first item without a place tell
abbrev pub placing_of : List PlacingItem → List ℕ → Option ℕ → Placing
placing_of items places None = AllPlaced (at_places items places)
placing_of items places (Some k) = lacks_first (drop k items)
