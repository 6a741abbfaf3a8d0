-- Laws of placing: first places are what they are said to be, and what is placed is apart.
use Rattle.std.specs.Prelude.{◌≡◌, ◌↔◌, ℕ, ◌<◌, ◌≤◌, IsTrue, List, map, None, Some}
use Rattle.std.specs.List.{AllPairs, Contains}
use Rattle.std.specs.List.Sorted.{IsPermutation}
use Rattle.pci_spec.specs.Decoded.{Range}
use Rattle.settle_spec.specs.FirstPlace.{Extent, ranges_are_apart, is_place, first_spot, first_place, IsLeastSpot, HasNoPlace, IsFirstPlaceIn, IsFirstPlace}
use Rattle.settle_spec.specs.Stands.{rank}
use Rattle.settle_spec.specs.Items.{PlacingItem, Placed, AllPlaced, item_precedes, in_turn, place_all, taken_by}

-- There is always a least free multiple of an alignment from an address on.
abbrev pub SpotIsLeast : Type 0
SpotIsLeast =
    (low : ℕ) (taken : List Range) (e : Extent) → 0 < e.alignment
    → IsLeastSpot low taken e (first_spot low taken e)

-- A first place is the least place of the first range that has one.
abbrev pub PlaceIsFirst : Type 0
PlaceIsFirst =
    (ranges taken : List Range) (e : Extent) (a : ℕ) → 0 < e.alignment
    → first_place ranges taken e ≡ Some a ↔ IsFirstPlace ranges taken e a

-- There is none exactly where no range has a place.
abbrev pub NoPlaceIsNone : Type 0
NoPlaceIsNone =
    (ranges taken : List Range) (e : Extent) → 0 < e.alignment
    → first_place ranges taken e ≡ None
    ↔ ((r : Range) → Contains ranges r → HasNoPlace r taken e)

-- It hangs on which addresses are taken, and not on the order in which they are listed.
abbrev pub OrderIsFree : Type 0
OrderIsFree =
    (ranges xs ys : List Range) (e : Extent) → 0 < e.alignment
    → ((t : Range) → Contains xs t ↔ Contains ys t)
    → first_place ranges xs e ≡ first_place ranges ys e

-- ---- when more is taken

-- what is taken stays so
abbrev pub TakesMore : List Range → List Range → Type 0
TakesMore taken more = (t : Range) → Contains taken t → Contains more t

-- an extent is as aligned as another, no smaller, and may lie no higher
pub record NeedsNoLess (e d : Extent) : Type 0 where
  pub alignment : d.alignment ≡ e.alignment
  pub size : e.size ≤ d.size
  pub highest : d.highest ≤ e.highest

-- It has no place before the first one that the other had in a range when less was taken,
abbrev pub NoPlaceIsBefore : Type 0
NoPlaceIsBefore =
    (r : Range) (taken more : List Range) (e d : Extent) (a : ℕ) → TakesMore taken more
    → NeedsNoLess e d → IsFirstPlaceIn r taken e a → (b : ℕ) → IsTrue (is_place r more d b) → a ≤ b

-- and none in a range that had none. So a search can go on where the last one ended.
abbrev pub NoneStaysNone : Type 0
NoneStaysNone =
    (r : Range) (taken more : List Range) (e d : Extent) → TakesMore taken more
    → NeedsNoLess e d → HasNoPlace r taken e → HasNoPlace r more d

-- ---- of many items

abbrev pub PlacesAreApart : Placed → Placed → Type 0
PlacesAreApart p q = IsTrue (ranges_are_apart (taken_by p.item p.at) (taken_by q.item q.at))

-- Items at their places: each of them lies in a range, off what was taken, and no two share an address.
pub record ArePlaced (ranges : PlacingItem → List Range) (taken : List Range) (items : List PlacingItem)
    (placed : List Placed) : Type 0 where
  pub all : map (λ (p : Placed). p.item) placed ≡ items
  pub each : (p : Placed) → Contains placed p
      → (r : Range) × Contains (ranges p.item) r
      × IsTrue (is_place r taken p.item.extent p.at)
  pub apart : AllPairs PlacesAreApart placed

abbrev pub PlacedAreApart : Type 0
PlacedAreApart =
    (ranges : PlacingItem → List Range) (taken : List Range) (items : List PlacingItem) (placed : List Placed)
    → ((i : PlacingItem) → Contains items i → 0 < i.extent.alignment)
    → place_all ranges taken items ≡ AllPlaced placed
    → ArePlaced ranges taken items placed

-- ---- in turn

-- an item is of a lower slot, or of a lower register of the same slot
abbrev pub HasLowerRank : PlacingItem → PlacingItem → Type 0
HasLowerRank i j = rank i.region < rank j.region

-- it is of another slot, or of another register
abbrev pub HasOtherRank : PlacingItem → PlacingItem → Type 0
HasOtherRank i j = rank i.region ≡ rank j.region → ⊥

abbrev pub ComesBefore : PlacingItem → PlacingItem → Type 0
ComesBefore i j = IsTrue (item_precedes i j)

-- Items in turn are the same items, each before all that follow it,
abbrev pub TurnIsOrdered : Type 0
TurnIsOrdered =
    (items : List PlacingItem) → AllPairs HasOtherRank items
    → IsPermutation items (in_turn items) × AllPairs ComesBefore (in_turn items)

-- and there is no other list of them in that order.
abbrev pub TurnIsOnly : Type 0
TurnIsOnly =
    (items turn : List PlacingItem) → AllPairs HasOtherRank items → IsPermutation items turn
    → AllPairs ComesBefore turn → in_turn items ≡ turn

-- So it doesn't matter in which order the items are listed.
abbrev pub TurnIsFree : Type 0
TurnIsFree =
    (items others : List PlacingItem) → AllPairs HasOtherRank items → AllPairs HasOtherRank others
    → IsPermutation items others → in_turn items ≡ in_turn others
