-- The last place in a range, by the list of what is taken.
use Rattle.std.specs.Prelude.{ℕ, ◌≡◌, ◌+◌, ◌%◌, ◌<◌, ◌≤◌, IsTrue, List, length, map, slice_index_or, Option, None, Some}
use Rattle.pci_spec.specs.Decoded.{Range as DecodedRange}
use Rattle.plan_spec.specs.Place.{range_from}
use Rattle.settle_spec.specs.FirstPlace.{is_place, HasNoPlace}
use Rattle.pci_base.specs.declared.range.Range.{Range}
use Rattle.pci_base.specs.Ranges.{decoded_range_of}
use Rattle.pci_first_fit.specs.declared.extent.Extent.{Extent}
use Rattle.pci_first_fit.specs.Spots.{extent_value}
use Rattle.pci_grow.specs.declared.last_place.LateSpot.{LateSpot}

-- no last address is below one before it
abbrev pub LastsRise : List Range → Type 0
LastsRise taken =
    (j k : ℕ) (d : Range) → j < k → k < length taken
    → (slice_index_or taken j d).last ≤ (slice_index_or taken k d).last

-- a range has no place, whatever is taken
abbrev pub HasNone : Range → Extent → Type 0
HasNone r e = (taken : List DecodedRange) → HasNoPlace (decoded_range_of r) taken (extent_value e)

-- a search down a range has come to an address: no place is above it, and so many of the ranges that are taken, the last
-- ones of the list, lie above the addresses from it on
pub record IsDescended (r : Range) (taken : List Range) (e : Extent) (at above : ℕ) : Type 0 where
  pub multiple : at % e.alignment ≡ 0
  pub last : (range_from at e.size).last ≤ r.last
  pub highest : (range_from at e.size).last ≤ e.highest
  pub greatest : (b : ℕ)
      → IsTrue (is_place (decoded_range_of r) (map decoded_range_of taken) (extent_value e) b)
      → b ≤ at
  pub within : above ≤ length taken
  pub higher : (k : ℕ) (d : Range) → length taken ≤ k + above → k < length taken
      → (range_from at e.size).last < (slice_index_or taken k d).first

-- from there on nothing is known to be taken
pub record IsLateStart (r : Range) (e : Extent) (s : LateSpot) : Type 0 where
  pub none : s.above ≡ 0
  pub descended : (taken : List Range) → IsDescended r taken e s.at 0

-- and the rest of what is taken lies below that address
pub record IsLateSpotAt (r : Range) (taken : List Range) (e : Extent) (s : LateSpot) : Type 0 where
  pub descended : IsDescended r taken e s.at s.above
  pub lower : (k : ℕ) (d : Range) → k + s.above < length taken
      → (slice_index_or taken k d).last < s.at

-- the place alone
abbrev pub late_place : Option LateSpot → Option ℕ
late_place None = None
late_place (Some s) = Some s.at
