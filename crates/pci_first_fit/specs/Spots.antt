-- Free places, by the list of what is taken.
use Rattle.std.specs.Prelude.{ℕ, ◌≡◌, ◌<◌, ◌≤◌, ◌^◌, Bool, true, false, not, if◌then◌else◌, IsTrue, List, length, map, slice_index_or, Option, None, Some}
use Rattle.std.specs.List.{insert, list_any}
use Rattle.plan_spec.specs.Place.{range_from}
use Rattle.settle_spec.specs.FirstPlace.{Extent as ExtentValue, ranges_are_apart, is_spot, first_place_in, IsLeastSpot}
use Rattle.pci_base.specs.declared.range.Range.{Range}
use Rattle.pci_base.specs.Ranges.{decoded_range_of}
use Rattle.pci_first_fit.specs.declared.extent.Extent.{Extent}
use Rattle.pci_first_fit.specs.declared.spot.Spot.{Spot}
use Rattle.pci_first_fit.specs.declared.spot.Start.{Start}

-- the extent as the definitions have it
abbrev pub extent_value : Extent → ExtentValue
extent_value e = record { size = e.size; alignment = e.alignment; highest = e.highest }

-- it has an address, and an alignment
pub record IsExtent (e : Extent) : Type 0 where
  pub size : 0 < e.size
  pub alignment : 0 < e.alignment

-- no first address is below one before it
abbrev pub FirstsRise : List Range → Type 0
FirstsRise taken =
    (j k : ℕ) (d : Range) → j < k → k < length taken
    → (slice_index_or taken j d).first ≤ (slice_index_or taken k d).first

-- a place ends in 64 bits: what is taken before its index lies below it, and the rest above
pub record IsBetweenTaken (taken : List Range) (e : Extent) (s : Spot) : Type 0 where
  pub ends : (range_from s.at e.size).last < 2 ^ 64
  pub within : s.index ≤ length taken
  pub below : (k : ℕ) (d : Range) → k < s.index → (slice_index_or taken k d).last < s.at
  pub above : (k : ℕ) (d : Range) → s.index ≤ k → k < length taken
      → (range_from s.at e.size).last < (slice_index_or taken k d).first

-- the least free place from an address on
pub record IsSpotAt (taken : List Range) (low : ℕ) (e : Extent) (s : Spot) : Type 0 where
  pub least : IsLeastSpot low (map decoded_range_of taken) (extent_value e) s.at
  pub between : IsBetweenTaken taken e s

-- the place alone
abbrev pub spot_place : Option Spot → Option ℕ
spot_place None = None
spot_place (Some s) = Some s.at

abbrev pub place_if : Bool → ℕ → Option ℕ
place_if found a = if found then Some a else None

-- whether a range shares an address with one of others
abbrev pub is_near : List Range → Range → Bool
is_near ranges t =
    list_any (λ r. not (ranges_are_apart (decoded_range_of t) (decoded_range_of r))) ranges

-- ---- how far a search has come

-- no free place from an address on is below that of a spot, and what is taken before its index is
pub record IsSpotReached (taken : List Range) (low : ℕ) (e : Extent) (s : Spot) : Type 0 where
  pub least : (b : ℕ) → IsTrue (is_spot low (map decoded_range_of taken) (extent_value e) b) → s.at ≤ b
  pub within : s.index ≤ length taken
  pub below : (k : ℕ) (d : Range) → k < s.index → (slice_index_or taken k d).last < s.at

-- ranges before have no place, and in this one the search has come to a spot
pub record IsStart (ranges taken : List Range) (e : Extent) (s : Start) : Type 0 where
  pub before : (k : ℕ) (d : Range) → k < s.range
      → first_place_in (decoded_range_of (slice_index_or ranges k d)) (map decoded_range_of taken)
      (extent_value e) ≡ None
  pub reached : (d : Range) → s.range < length ranges
      → IsSpotReached taken (slice_index_or ranges s.range d).first e s.spot

-- ---- what is taken

-- ranges by rising first addresses, none of them backward
pub record AreRisingRanges (taken : List Range) : Type 0 where
  pub order : FirstsRise taken
  pub forward : (k : ℕ) (d : Range) → k < length taken
      → (slice_index_or taken k d).first ≤ (slice_index_or taken k d).last

-- the addresses of an extent from a on
abbrev pub extent_range : Extent → ℕ → Range
extent_range e a = record { first = a; last = (range_from a e.size).last }

-- what is taken once a place was given: it too, between what lies below it and what lies above
pub record IsPutIn (old new : List Range) (e : Extent) (s : Spot) : Type 0 where
  pub between : IsBetweenTaken old e s
  pub put : new ≡ insert old s.index (extent_range e s.at)

-- the same, where there is one
abbrev pub IsTakenBy : List Range → List Range → Extent → Spot → Bool → Type 0
IsTakenBy old new e s true = IsPutIn old new e s
IsTakenBy old new e s false = new ≡ old

-- the addresses of an extent are taken, whether they were free or not
pub record IsTakenAt (old new : List Range) (e : Extent) (a : ℕ) : Type 0 where
  pub index : ℕ
  pub within : index ≤ length old
  pub ends : (range_from a e.size).last < 2 ^ 64
  pub put : new ≡ insert old index (extent_range e a)
