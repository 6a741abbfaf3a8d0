-- Laws of windows that grow: what stays without growth stays with it, and what grows holds what it is to, off what stands beside it.
use Rattle.std.specs.Prelude.{◌≡◌, ◌≢◌, ◌↔◌, ℕ, ◌+◌, ◌%◌, ◌<◌, ◌≤◌, IsTrue, IsFalse, List, None, Some}
use Rattle.std.specs.List.{Contains}
use Rattle.pci_spec.specs.Window.{WindowKind, Bounds, bounds_for, page_size}
use Rattle.pci_spec.specs.Decoded.{Range}
use Rattle.pci_spec.specs.System.{System, Function, is_window}
use Rattle.settle_spec.specs.FirstPlace.{Extent, HasNoPlace, ranges_are_apart}
use Rattle.settle_spec.specs.LastPlace.{last_place_in, IsLastPlaceIn}
use Rattle.settle_spec.specs.Lists.{Request}
use Rattle.settle_spec.specs.Parts.{FunctionPart, system_parts, addresses, lies_within}
use Rattle.settle_spec.specs.Stands.{rank, are_beside, window_part, stands}
use Rattle.settle_spec.specs.Items.{highest_in, stays}
use Rattle.settle_spec.specs.Reach.{lower_of, standing_beside, reach_in, reach}
use Rattle.settle_spec.specs.Growth.{grown_to}
use Rattle.settle_spec.specs.Kept.{stays_growing, range_growing}

-- A last place is the greatest place of a range,
abbrev pub PlaceIsLast : Type 0
PlaceIsLast =
    (r : Range) (taken : List Range) (e : Extent) (a : ℕ) → 0 < e.alignment → 0 < e.size
    → last_place_in r taken e ≡ Some a ↔ IsLastPlaceIn r taken e a

-- and there is none exactly where the range has no place.
abbrev pub NoLastIsNone : Type 0
NoLastIsNone =
    (r : Range) (taken : List Range) (e : Extent) → 0 < e.alignment → 0 < e.size
    → last_place_in r taken e ≡ None ↔ HasNoPlace r taken e

-- What stays as it stands stays where windows grow.
abbrev pub GrowthKeeps : Type 0
GrowthKeeps =
    (q : Request) (s : System) (r : FunctionPart) → IsTrue (stays q s r)
    → IsTrue (stays_growing q s r)

-- Whatever grows has all addresses that it had,
abbrev pub GrowthHoldsAll : Type 0
GrowthHoldsAll =
    (q : Request) (s : System) (r : FunctionPart)
    → IsTrue (lies_within (addresses r) (range_growing q s r))

-- and no BAR or ROM grows.
abbrev pub OnlyWindowsGrow : Type 0
OnlyWindowsGrow =
    (q : Request) (s : System) (r : FunctionPart) → IsFalse (is_window r.part)
    → range_growing q s r ≡ addresses r

-- ---- what a window comes to

-- no half of a bound moves inward
pub record MoveOut (from to : Bounds) : Type 0 where
  pub base : to.base ≤ from.base
  pub limit : from.limit ≤ to.limit
  pub base_upper : to.base_upper ≤ from.base_upper
  pub limit_upper : from.limit_upper ≤ to.limit_upper

-- A window that grows moves no half of a bound inward, so its registers can be written in any order.
abbrev pub HalvesMoveOut : Type 0
HalvesMoveOut =
    (c : WindowKind) (n : ℕ) (w : Range) (others : List Range)
    → MoveOut (bounds_for c n w.first w.last)
    (bounds_for c n (grown_to c w others).first (grown_to c w others).last)

-- It holds all that it grows for.
abbrev pub GrownHolds : Type 0
GrownHolds =
    (c : WindowKind) (w : Range) (others : List Range) (r : Range) → Contains others r
    → IsTrue (lies_within r (grown_to c w others))

-- whole pages around a window, with ends whose lower halves its own allow
pub record CanReach (c : WindowKind) (w r : Range) : Type 0 where
  pub first : r.first ≤ w.first
  pub last : w.last ≤ r.last
  pub first_page : r.first % page_size c ≡ 0
  pub last_page : (r.last + 1) % page_size c ≡ 0
  pub first_half : lower_of c r.first ≤ lower_of c w.first
  pub last_half : lower_of c w.last ≤ lower_of c r.last

-- Where all that it grows for is in such pages, it doesn't grow out of them.
abbrev pub GrownIsInReach : Type 0
GrownIsInReach =
    (c : WindowKind) (w r : Range) (others : List Range) → CanReach c w r
    → ((t : Range) → Contains others t → IsTrue (lies_within t r))
    → IsTrue (lies_within (grown_to c w others) r)

-- Where a window is in a room, off all else that stands on its bus, its reach is such pages of the room.
abbrev pub ReachIsAround : Type 0
ReachIsAround =
    (q : Request) (s : System) (c : WindowKind) (b : Function) (room : Range)
    → IsTrue (lies_within (addresses (window_part c b)) room)
    → (addresses (window_part c b)).last ≤ highest_in c b.probe
    → ((t : Range) → Contains (standing_beside q s (window_part c b)) t
    → IsTrue (ranges_are_apart (addresses (window_part c b)) t))
    → CanReach c (addresses (window_part c b)) (reach_in q s c b room)
    × IsTrue (lies_within (reach_in q s c b room) room)

-- The reach of a window is off all else of its space that stands on its bus.
abbrev pub ReachIsOff : Type 0
ReachIsOff =
    (q : Request) (s : System) (c : WindowKind) (b : Function) (t : FunctionPart)
    → Contains (system_parts q s) t → IsTrue (are_beside q (window_part c b) t)
    → rank t ≢ rank (window_part c b) → IsTrue (stands q s t)
    → IsTrue (ranges_are_apart (addresses (window_part c b)) (addresses t))
    → IsTrue (ranges_are_apart (reach q s c b) (addresses t))
