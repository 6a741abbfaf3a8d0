-- The places of the items of a bus.
use Rattle.std.specs.Prelude.{◌≡◌, ℕ, ◌<◌, ◌^◌, List, map, length, Option, IfSome, IfNone}
use Rattle.std.specs.List.{All, Contains}
use Rattle.pci_spec.specs.Decoded.{Range as DecodedRange}
use Rattle.pci_spec.specs.System.{System}
use Rattle.plan_spec.specs.Place.{range_from}
use Rattle.settle_spec.specs.Lists.{Request}
use Rattle.settle_spec.specs.Items.{PlacingItem, Placed, Placing, place_each}
use Rattle.settle_spec.specs.Lines.{taken_for}
use Rattle.settle_spec.specs.Kept.{Kept}
use Rattle.settle_spec.specs.Keeping.Places.{space_items, taken_at, place_of_item}
use Rattle.pci_base.specs.declared.range.Range.{Range}
use Rattle.pci_base.specs.declared.window_kind.ByKind.{ByKind}
use Rattle.pci_first_fit.specs.Placings.{placing_of}
use Rattle.pci_settle_places.specs.declared.candidate.Candidate.{Candidate}
use Rattle.pci_settle_places.specs.Staying.{IsStaying}
use Rattle.pci_settle_places.specs.Candidates.{candidate_value, IsWithin, HasAddressAndAlignment, HasPart, Pass, HasAskedWindows}
use Rattle.pci_settle_places.specs.Columns.{told_place, AreListsFor}
use Rattle.pci_settle_places.specs.Places.{AreEndingAt}

-- items at their places, or the first one that has none
abbrev pub bus_placing : System → List Candidate → List ℕ → Option ℕ → Placing
bus_placing s candidates places lack = placing_of (map (candidate_value s) candidates) places lack

-- each item is a part of a function, and has an entry in the table of places
pub record AreInTable (s : System) (candidates : List Candidate) (places : List ℕ)
    (lack : Option ℕ) : Type 0 where
  pub functions : All (IsWithin (length s)) candidates
  pub parts : All (HasPart s) candidates
  pub lawful : All HasAddressAndAlignment candidates
  pub count : length places ≡ length candidates
  pub lacking : IfSome lack (λ k. k < length candidates)
  pub ends : IfNone lack (AreEndingAt candidates places)

-- the places that are told end in 64 bits
abbrev pub AreToldEnding : Pass → ℕ → ByKind (Option Range) → Type 0
AreToldEnding p bus grown =
    (q : Request) (keep : Kept) → IsStaying q keep p.setting → HasAskedWindows q p
    → (c : Candidate) → Contains (space_items q p.setting.system keep p.space bus) (candidate_value p.setting.system c)
    → IfSome (told_place p.setting.staying.left.places.now grown c)
    (λ a. (range_from a c.item.extent.size).last < 2 ^ 64)

-- the place of an item beside what is taken on its bus: a new window is off what lines hold behind it, too
abbrev pub place_beside : Request → System → Kept → (ℕ → List Placed) → PlacingItem → List DecodedRange → Option ℕ
place_beside q s keep placed i taken = place_of_item q s keep placed i (taken_for q i.region taken)

-- they are those that are told, or in some lists of ranges, whatever is told of places on other buses
abbrev pub ArePlacesIn : Pass → ℕ → List (List Range) → ByKind (Option Range) → Placing → Type 0
ArePlacesIn p bus lists grown placing =
    (q : Request) (keep : Kept) (placed : ℕ → List Placed) → IsStaying q keep p.setting → HasAskedWindows q p
    → AreListsFor q p.setting.system keep p.space placed bus lists p.setting.staying.left.places.now grown
    → placing
    ≡ place_each (place_beside q p.setting.system keep placed) (taken_at q p.setting.system keep p.space bus)
    (space_items q p.setting.system keep p.space bus)
