-- Laws of places beside what is kept: only roots can lack room, and whatever stays or is placed lies in windows and apart.
use Rattle.std.specs.Prelude.{◌≡◌, ◌^◌, ◌<◌, IsTrue, IsFalse, Option, Some, None}
use Rattle.std.specs.List.{Contains}
use Rattle.std.specs.Option.{is_some}
use Rattle.pci_spec.specs.Decoded.{Range}
use Rattle.pci_spec.specs.System.{System, Function, IsSystem, Space, Part, has_part, is_window, space_of}
use Rattle.pci_spec.specs.Bus.{is_root, IsNested, LeadsTo}
use Rattle.pci_spec.specs.Sound.{IsInProfile, HasChains}
use Rattle.plan_spec.specs.Planning.Layout.{IsInside, LieApart, AreBeside, AreTwo}
use Rattle.settle_spec.specs.Lists.{RootRange, Request, are_bad_lists}
use Rattle.settle_spec.specs.Parts.{FunctionPart, parts_of, class_in}
use Rattle.settle_spec.specs.Stands.{is_in_lists, window_part}
use Rattle.settle_spec.specs.Items.{Placed, are_placed}
use Rattle.settle_spec.specs.Kept.{Kept}
use Rattle.settle_spec.specs.Keeping.Places.{placing_on, new_place, lacking}
use Rattle.settle_spec.specs.Wishes.{range_then}
use Rattle.settle_laws.specs.KeptLaws.{IsSoundKept}

-- Lists aren't refused and end below 2^64, a system is admitted, what stays is kept soundly, and nothing lacks room on the roots.
pub record CanSettle (q : Request) (s : System) (k : Kept) : Type 0 where
  pub lists : IsFalse (are_bad_lists q.roots q.lists)
  pub high : (r : RootRange) → Contains q.lists.prefetch r → r.range.last < 2 ^ 64
  pub system : IsSystem s
  pub nested : IsNested q.roots s
  pub profile : IsInProfile q.roots s
  pub chains : HasChains s
  pub sound : IsSoundKept q s k
  pub room : lacking q s k ≡ None

-- Then nothing lacks room on any other bus: each item of a bus on which a function stands has its place.
abbrev pub EachBusIsPlaced : Type 0
EachBusIsPlaced =
    (q : Request) (s : System) (k : Kept) → CanSettle q s k → (space : Space) (f : Function)
    → Contains s f → IsTrue (are_placed (placing_on q s k space f.slot.bus))

-- So each BAR and ROM that is looked at and doesn't stay gets a place.
abbrev pub PartsGetPlaces : Type 0
PartsGetPlaces =
    (q : Request) (s : System) (k : Kept) → CanSettle q s k → (f : Function) (p : Part) → Contains s f
    → Contains (parts_of q s f) p → IsFalse (is_window p)
    → IsFalse (k.stays record { function = f; part = p })
    → IsTrue (is_some (new_place q s k record { function = f; part = p }))

-- A part gets this place.
abbrev pub GetsPlace : Request → System → Kept → Function → Part → Placed → Type 0
GetsPlace q s k f p x =
    Contains s f × IsTrue (has_part f p)
    × (new_place q s k record { function = f; part = p } ≡ Some x)

-- What gets a place doesn't stay.
abbrev pub PlacesAreOfOthers : Type 0
PlacesAreOfOthers =
    (q : Request) (s : System) (k : Kept) → CanSettle q s k → (f : Function) (p : Part) (x : Placed)
    → GetsPlace q s k f p x → IsFalse (k.stays record { function = f; part = p })

-- ---- where parts end

-- the addresses at which a part ends: with room that is kept free in it, else those that it keeps or those of its place
abbrev pub end_range : Request → System → Kept → FunctionPart → Option Range
end_range q s k r = range_then q s k r

-- A part ends at these addresses.
abbrev pub EndsAt : Request → System → Kept → Function → Part → Range → Type 0
EndsAt q s k f p t =
    Contains s f × IsTrue (has_part f p)
    × (end_range q s k record { function = f; part = p } ≡ Some t)

-- On a root they lie in a range that the root has in the lists of the part's space.
abbrev pub PlacesAreInLists : Type 0
PlacesAreInLists =
    (q : Request) (s : System) (k : Kept) → CanSettle q s k → (f : Function) (p : Part) (t : Range)
    → EndsAt q s k f p t → IsTrue (is_root q.roots f.slot.bus)
    → IsTrue (is_in_lists q f.slot.bus t (space_of f p))

-- Behind a bridge they lie in the window of its class of that bridge, which stays or gets a place.
abbrev pub PlacesAreInWindows : Type 0
PlacesAreInWindows =
    (q : Request) (s : System) (k : Kept) → CanSettle q s k → (f b : Function) (p : Part) (t : Range)
    → EndsAt q s k f p t → LeadsTo s b f.slot.bus
    → (w : Range) × (end_range q s k (window_part (class_in q s f p) b) ≡ Some w) × IsInside t w

-- Two parts of a space on one bus, or both on roots, end apart.
abbrev pub KeepingPlacesAreApart : Type 0
KeepingPlacesAreApart =
    (q : Request) (s : System) (k : Kept) → CanSettle q s k → (f g : Function) (p r : Part)
    (t u : Range) → EndsAt q s k f p t → EndsAt q s k g r u → space_of f p ≡ space_of g r
    → AreBeside q.roots f g → AreTwo f p g r → LieApart t u
