-- What granting a wish leaves, by what is kept then.
use Rattle.std.specs.Prelude.{◌≡◌, ℕ, ◌<◌, ◌≤◌, map, Bool, true, false, List, ◌++◌, Option, None, Some}
use Rattle.std.specs.Option.{option_map}
use Rattle.pci_spec.specs.Decoded.{Range}
use Rattle.pci_spec.specs.Window.{WindowKind}
use Rattle.plan_spec.specs.Place.{range_from}
use Rattle.pci_spec.specs.System.{System, Function, window_space}
use Rattle.settle_spec.specs.FirstPlace.{first_spot, first_place}
use Rattle.settle_spec.specs.Lists.{Request, class_ranges, list_of}
use Rattle.settle_spec.specs.Stands.{window_part}
use Rattle.settle_spec.specs.Kept.{Kept}
use Rattle.settle_spec.specs.Wishes.{Spared, with_room_above, range_then, taken_then, spot_behind, spared_at, opened_at}
use Rattle.pci_place.specs.Items.{function_in}
use Rattle.pci_grow.specs.declared.board.Board.{Board}
use Rattle.pci_grow.specs.declared.board.BridgeWindow.{BridgeWindow}
use Rattle.pci_base.specs.declared.range.Range.{Range as CodeRange}
use Rattle.pci_base.specs.Ranges.{decoded_range_of}
use Rattle.pci_first_fit.specs.declared.extent.Extent.{Extent}
use Rattle.pci_grow.specs.declared.board.Facts.{Facts}
use Rattle.pci_grow.specs.declared.ending.Around.{Around}
use Rattle.pci_grow.specs.declared.ending.Around.TheVariants.{Nothing, Lists, Window}
use Rattle.pci_first_fit.specs.Spots.{extent_value}
use Rattle.pci_first_fit.specs.Lists.{lists_value}
use Rattle.pci_grow.specs.Lists.{ranges_had}
use Rattle.pci_grow.specs.RoomRows.{HasRanges}
use Rattle.pci_grow.specs.Board.{IsWindow, window_class, bridge_of_window, Room, IsRoomOfKept}

-- where nothing is kept that way nothing changed
abbrev pub IsEndedAs : Request → System → Board → Option Kept → Bool → Room → Room → Type 0
IsEndedAs q s b None result old new = (result ≡ false) × (new ≡ old)
IsEndedAs q s b (Some k) result old new = (result ≡ true) × IsRoomOfKept q s k b new

-- the same of a spare with its place
abbrev pub IsSparedAs : Request → System → Board → Option Spared → Option ℕ → Room → Room → Type 0
IsSparedAs q s b None place old new = (place ≡ None) × (new ≡ old)
IsSparedAs q s b (Some found) place old new = (place ≡ Some found.at) × IsRoomOfKept q s found.kept b new

-- the first spot of an extent from an address on, where it ends by the highest address that the extent may have
abbrev pub IsSpotBelow : List Range → ℕ → Extent → Option ℕ → Type 0
IsSpotBelow taken low e None = e.highest < (range_from (first_spot low taken (extent_value e)) e.size).last
IsSpotBelow taken low e (Some at) =
    (at ≡ first_spot low taken (extent_value e)) × ((range_from at e.size).last ≤ e.highest)

-- this is taken on a bus in the space of a class, with what is behind windows that are opened
abbrev pub IsTakenOn : Board → Room → ℕ → WindowKind → List CodeRange → List CodeRange → Type 0
IsTakenOn b room bus c behind taken =
    (q : Request) (s : System) (k : Kept) (held : List Range) → IsRoomOfKept q s k b room → HasRanges behind held
    → HasRanges taken (held ++ taken_then q s k (window_space c) bus)

-- such a spot beside all that
pub record IsSpotBeside (b : Board) (room : Room) (bus : ℕ) (c : WindowKind) (behind : List CodeRange) (low : ℕ) (e : Extent) (spot : Option ℕ) : Type 0 where
  pub taken : List CodeRange
  pub taken_is : IsTakenOn b room bus c behind taken
  pub spot_is : IsSpotBelow (map decoded_range_of taken) low e spot

-- and the first place in the list of the class
pub record IsPlaceBeside (b : Board) (room : Room) (bus : ℕ) (c : WindowKind) (behind : List CodeRange) (e : Extent) (place : Option ℕ) : Type 0 where
  pub taken : List CodeRange
  pub taken_is : IsTakenOn b room bus c behind taken
  pub place_is : place ≡ first_place (ranges_had bus (list_of (lists_value b.lists.now) c)) (map decoded_range_of taken) (extent_value e)

-- room for a spare in an open window
abbrev pub IsSparedIn : Request → System → Kept → Board → BridgeWindow → CodeRange → Extent → List Range → Option ℕ → Room → Room → Type 0
IsSparedIn q s k b w range e behind place old new =
    IsSparedAs q s b
    (spared_at q s (window_class w) (bridge_of_window s w) (extent_value e) k
    (spot_behind q s (window_class w) (bridge_of_window s w) (extent_value e) behind k (decoded_range_of range)))
    place old new

-- a closed window on a root is opened at its first place, if there is one
abbrev pub spared_on_root : Request → System → Kept → BridgeWindow → Extent → List Range → Option Spared
spared_on_root q s k w e behind =
    option_map (opened_at q s (window_class w) (bridge_of_window s w) (extent_value e))
    (option_map (λ at. record { at = at; kept = k })
    (first_place (class_ranges q (window_class w) (bridge_of_window s w).slot.bus)
    (behind ++ taken_then q s k (window_space (window_class w)) (bridge_of_window s w).slot.bus) (extent_value e)))

abbrev pub IsSparedOnRoot : Request → System → Kept → Board → BridgeWindow → Facts → Extent → List Range → Option ℕ → Room → Room → Type 0
IsSparedOnRoot q s k b w facts e behind place old new =
    facts.there ≡ true → range_then q s k (window_part (window_class w) (bridge_of_window s w)) ≡ None
    → IsSparedAs q s b (spared_on_root q s k w e behind) place old new

-- what is kept where something is around a window
abbrev pub kept_around : System → (Function → ℕ → Kept → Option Kept) → ℕ → Kept → Around → Option Kept
kept_around s above last k Nothing = None
kept_around s above last k Lists = Some k
kept_around s above last k (Window bridge) = above (function_in s bridge) last k

-- the window over another one is that of a bridge on a lower bus
pub record IsOverOne (s : System) (w : BridgeWindow) (bridge : ℕ) : Type 0 where
  pub window : IsWindow s record { bridge = bridge; class = w.class }
  pub lower : (function_in s bridge).slot.bus < (bridge_of_window s w).slot.bus

abbrev pub IsAroundOne : System → BridgeWindow → Around → Type 0
IsAroundOne s w (Window bridge) = IsOverOne s w bridge
IsAroundOne s w around = Unit {0}

-- what is around a window of a bridge where it has these addresses
pub record IsAroundWindow (q : Request) (s : System) (w : BridgeWindow) (window : Range) (around : Around) : Type 0 where
  pub one : IsAroundOne s w around
  pub kept : (above : Function → ℕ → Kept → Option Kept) (k : Kept)
      → with_room_above q s (window_class w) above (bridge_of_window s w) window k ≡ kept_around s above window.last k around

-- its bridge is one of so many functions
abbrev pub IsAroundIn : ℕ → Around → Type 0
IsAroundIn functions (Window bridge) = bridge < functions
IsAroundIn functions around = Unit {0}
