-- Places around a window: the first one from its first address on, or else the last one before it.
use Rattle.std.specs.Prelude.{ℕ, ◌≡◌, ◌+◌, ◌-◌, ◌^◌, ◌<◌, ◌≤◌, nat_lt, if◌then◌else◌, false, List, [], ◌∷◌, ◌++◌, map, length, slice_index_or, Option, None, Some, IfSome, ⊤}
use Rattle.pci_spec.specs.Decoded.{Range as DecodedRange}
use Rattle.plan_spec.specs.Place.{range_from}
use Rattle.settle_spec.specs.FirstPlace.{HasNoPlace, first_place_in}
use Rattle.settle_spec.specs.LastPlace.{last_place_in}
use Rattle.settle_spec.specs.Items.{PlacingItem as ItemValue, AllPlaced, are_placed, place_each}
use Rattle.settle_spec.specs.Growth.{place_around}
use Rattle.pci_base.specs.declared.range.Range.{Range}
use Rattle.pci_base.specs.Ranges.{decoded_range_of}
use Rattle.pci_first_fit.specs.declared.extent.Extent.{Extent}
use Rattle.pci_first_fit.specs.declared.item.Item.{Item}
use Rattle.pci_first_fit.specs.declared.spot.Spot.{Spot}
use Rattle.pci_first_fit.specs.declared.spot.Start.{Start}
use Rattle.pci_first_fit.specs.Placings.{at_places}
use Rattle.pci_first_fit.specs.Spots.{extent_value, IsExtent, AreRisingRanges, IsPutIn, IsStart}
use Rattle.pci_grow.specs.declared.around.Around.{Around}
use Rattle.pci_grow.specs.declared.around.Search.{Search}
use Rattle.pci_grow.specs.declared.last_place.LateSpot.{LateSpot}
use Rattle.pci_grow.specs.Grounds.{Ground, IsBehindItem}
use Rattle.pci_grow.specs.LastPlaces.{LastsRise, IsDescended}

-- from a window's first address to the end of its reach
abbrev pub onward : Around → Range
onward a = record { first = a.window.first; last = a.reach.last }

-- the part of the reach before the window
abbrev pub backward : Around → Option Range
backward a =
    if nat_lt a.reach.first a.window.first
    then Some record { first = a.reach.first; last = a.window.first - 1 } else None

-- the last place in a range, where there is one
abbrev pub last_place_of : Option Range → List Range → Extent → Option ℕ
last_place_of None taken e = None
last_place_of (Some r) taken e = last_place_in (decoded_range_of r) (map decoded_range_of taken) (extent_value e)

-- what the definitions find, where some ranges are behind an item
abbrev pub find_around : (ItemValue → List DecodedRange) → Around → ItemValue → List DecodedRange → Option ℕ
find_around behind a i taken =
    place_around (decoded_range_of a.window) (decoded_range_of a.reach) (behind i ++ taken) i.extent

-- ---- how far searches have come

-- first places can be looked for from there on, or there is none
abbrev pub IsFirstSearch : Range → List Range → Extent → Option Start → Type 0
IsFirstSearch r taken e None =
    first_place_in (decoded_range_of r) (map decoded_range_of taken) (extent_value e) ≡ None
IsFirstSearch r taken e (Some s) = IsStart (r ∷ []) taken e s

-- the same of last places
abbrev pub IsLastSearch : Option Range → List Range → Extent → Option LateSpot → Type 0
IsLastSearch None taken e s = ⊤
IsLastSearch (Some r) taken e None = HasNoPlace (decoded_range_of r) (map decoded_range_of taken) (extent_value e)
IsLastSearch (Some r) taken e (Some s) = IsDescended r taken e s.at s.above

-- while there are first places none of the last ones was looked for
abbrev pub IsLastBegun : Option Start → Option LateSpot → Type 0
IsLastBegun None last = ⊤
IsLastBegun (Some s) None = ⊤
IsLastBegun (Some s) (Some late) = late.above ≡ 0

pub record IsSearch (a : Around) (taken : List Range) (s : Search) : Type 0 where
  pub extent : IsExtent s.extent
  pub first : IsFirstSearch (onward a) taken s.extent s.first
  pub last : IsLastSearch (backward a) taken s.extent s.last
  pub begun : IsLastBegun s.first s.last

-- where a place is put, nothing is of what lies above where last places are looked for next
abbrev pub IsBelowLateSearch : List Range → Search → Spot → Type 0
IsBelowLateSearch taken search spot =
    IfSome search.last (λ late. spot.index + late.above ≤ length taken)

-- ---- one item after another

-- ranges by rising first and last addresses, none of them backward
pub record AreRisingAtBothEnds (taken : List Range) : Type 0 where
  pub rising : AreRisingRanges taken
  pub lasts : LastsRise taken

-- a place was taken, between what lies below it and what lies above
pub record IsPutAt (old new : List Range) (e : Extent) (a : ℕ) : Type 0 where
  pub spot : Spot
  pub at_is : spot.at ≡ a
  pub put : IsPutIn old new e spot

-- these are items with these extents
pub record HaveExtents (items : List ItemValue) (code : List Item) : Type 0 where
  pub count : length items ≡ length code
  pub each : (k : ℕ) (i : ItemValue) (c : Item) → k < length code
      → (slice_index_or items k i).extent ≡ extent_value (slice_index_or code k c).extent

-- so many items end in 64 bits at the places of a table
abbrev pub AreEndingAll : List Item → List ℕ → ℕ → Type 0
AreEndingAll items places count =
    (k : ℕ) (c : Item) → k < count
    → (range_from (slice_index_or places k 0) (slice_index_or items k c).extent.size).last < 2 ^ 64

-- so it is of each item
abbrev pub HaveBehind : Ground → (ItemValue → List DecodedRange) → List ItemValue → List Item → Type 0
HaveBehind g behind values items =
    (k : ℕ) (v : ItemValue) (c : Item) → k < length items
    → IsBehindItem g (slice_index_or items k c) (behind (slice_index_or values k v))

-- so items get these places around a window beside what is taken
pub record ArePlacesAround (a : Around) (g : Ground) (taken : List Range) (items : List Item)
    (places : List ℕ) : Type 0 where
  pub placing : (values : List ItemValue) (behind : ItemValue → List DecodedRange)
      → HaveExtents values items → HaveBehind g behind values items
      → place_each (find_around behind a) (map decoded_range_of taken) values
      ≡ AllPlaced (at_places values places)
  pub count : length places ≡ length items
  pub ends : AreEndingAll items places (length items)

-- or one of them gets none
abbrev pub HaveNoPlaces : Around → Ground → List Range → List Item → Type 0
HaveNoPlaces a g taken items =
    (values : List ItemValue) (behind : ItemValue → List DecodedRange)
    → HaveExtents values items → HaveBehind g behind values items
    → are_placed (place_each (find_around behind a) (map decoded_range_of taken) values) ≡ false
