-- The board that wishes are granted on, and what is told of it.
use Rattle.std.specs.Prelude.{◌≡◌, ℕ, ◌<◌, Bool, true, false, List, map, length, Option, None, Some, slice_index_or}
use Rattle.std.specs.List.{list_any}
use Rattle.std.specs.Option.{option_map, option_or}
use Rattle.pci_spec.specs.Slot.{same_slot}
use Rattle.pci_spec.specs.Window.{WindowKind, has_window}
use Rattle.pci_spec.specs.Decoded.{Range as DecodedRange, HasRecords}
use Rattle.pci_spec.specs.System.{System, Function, IsSystem, Space, is_bridge}
use Rattle.pci_spec.specs.Bus.{secondary, IsNested}
use Rattle.settle_spec.specs.Lists.{Request}
use Rattle.settle_spec.specs.Parts.{bridge_over}
use Rattle.settle_spec.specs.Stands.{window_part, is_fixed_part}
use Rattle.settle_spec.specs.Items.{highest_in}
use Rattle.settle_spec.specs.Kept.{Kept}
use Rattle.settle_spec.specs.Wishes.{place_then, range_then, there_then}
use Rattle.pci_base.specs.declared.range.Range.{Range}
use Rattle.pci_base.specs.declared.window_kind.ByKind.{ByKind}
use Rattle.pci_base.specs.Ranges.{decoded_range_of}
use Rattle.pci_base.specs.WindowKinds.{kind_value}
use Rattle.pci_function.specs.Values.{record_value}
use Rattle.pci_tree.specs.Roots.{buses_of}
use Rattle.pci_tree.specs.Ways.{IsBridgeToBus}
use Rattle.pci_place.specs.Items.{function_in}
use Rattle.pci_grow.specs.declared.board.Board.{Board}
use Rattle.pci_grow.specs.declared.board.BridgeWindow.{BridgeWindow}
use Rattle.pci_grow.specs.declared.board.Facts.{Facts}
use Rattle.pci_grow.specs.declared.spare_room.Room.{Room as CodeRoom}
use Rattle.pci_first_fit.specs.Lists.{lists_value}
use Rattle.pci_first_fit.specs.Lines.{AreLines}
use Rattle.pci_grow.specs.RoomRows.{bus_level, row_number, row_at, HasRanges, AreSameBut, IsEndedIn, IsAddedTo}
use Rattle.pci_grow.specs.LastPlaces.{LastsRise}
use Rattle.pci_first_fit.specs.Spots.{FirstsRise}
use Rattle.pci_first_fit.specs.Tables.{told, TellsSame}

-- a lawful system with these records, and what is asked of it
pub record IsAsked (q : Request) (s : System) (b : Board) : Type 0 where
  pub has : HasRecords s (map record_value b.records.now)
  pub system : IsSystem s
  pub nested : IsNested q.roots s
  pub roots : q.roots ≡ buses_of b.roots.now
  pub lists : q.lists ≡ lists_value b.lists.now
  pub told : AreLines q.roots q.told.ranges b.lines.now
  pub over : IsBridgeToBus b.records.now b.over.now
  pub fixed : (k : ℕ) → k < length s
      → slice_index_or b.fixed.now k false ≡ list_any (same_slot (function_in s k).slot) q.fixed

-- ---- windows

-- its bridge
abbrev pub bridge_of_window : System → BridgeWindow → Function
bridge_of_window s w = function_in s w.bridge

-- the class as the definitions have it
abbrev pub window_class : BridgeWindow → WindowKind
window_class w = kind_value w.class

-- a window of a bridge of the system
pub record IsWindow (s : System) (w : BridgeWindow) : Type 0 where
  pub within : w.bridge < length s
  pub bridge : is_bridge (bridge_of_window s w) ≡ true

-- what is known of a window
pub record AreFacts (q : Request) (c : WindowKind) (f : Function) (facts : Facts) : Type 0 where
  pub bridge : is_bridge f ≡ true
  pub bus : facts.bus ≡ f.slot.bus
  pub behind : facts.behind ≡ secondary f
  pub there : facts.there ≡ has_window c f.probe
  pub fixed : facts.fixed ≡ is_fixed_part q (window_part c f)
  pub highest : facts.highest ≡ highest_in c f.probe

-- a function that is no bridge has no windows
abbrev pub HasFacts : Request → WindowKind → Function → Option Facts → Type 0
HasFacts q c f None = is_bridge f ≡ false
HasFacts q c f (Some facts) = AreFacts q c f facts

-- the bridge over a bus, by its index
abbrev pub IsBridgeIndexOver : System → ℕ → Option ℕ → Type 0
IsBridgeIndexOver s bus None = bridge_over s bus ≡ None
IsBridgeIndexOver s bus (Some k) = (k < length s) × (bridge_over s bus ≡ Some (function_in s k))

-- ---- what is there so far

-- wished windows by function, and what is there by rows
pub record Room : Type 0 where
  pub wished : List (ByKind (Option Range))
  pub rows : List (List Range)
  -- of which rows it is known that last addresses rise, too
  pub rising : List Bool

abbrev pub room_value : {A : Type 0} → CodeRoom A → Room
room_value room = record {
  wished = room.wished.items;
  rows = map (λ v. v.items) room.rows.items;
  rising = room.rising.items;
}

-- last addresses rise in rows of which that is known
abbrev pub AreRising : Room → Type 0
AreRising room =
    (n : ℕ) → slice_index_or room.rising n false ≡ true → LastsRise (row_at room.rows n)

-- what is told of a window
abbrev pub told_then : List (ByKind (Option Range)) → Room → BridgeWindow → Option Range
told_then windows room w = option_or (told room.wished w.bridge w.class) (told windows w.bridge w.class)

-- the room is that where this is kept so far
pub record IsRoomOfKept (q : Request) (s : System) (k : Kept) (b : Board) (room : Room) : Type 0 where
  pub asked : IsAsked q s b
  pub windows : (w : BridgeWindow) → IsWindow s w
      → option_map decoded_range_of (told b.windows.now w.bridge w.class)
      ≡ place_then q s k (window_part (window_class w) (bridge_of_window s w))
  pub wished : (w : BridgeWindow) → w.bridge < length s
      → option_map decoded_range_of (told room.wished w.bridge w.class)
      ≡ k.wished (window_part (window_class w) (bridge_of_window s w))
  -- a window that isn't there has no addresses
  pub there : (w : BridgeWindow) → IsWindow s w → (r : DecodedRange)
      → range_then q s k (window_part (window_class w) (bridge_of_window s w)) ≡ Some r
      → has_window (window_class w) (bridge_of_window s w).probe ≡ true
  pub rows : (space : Space) (bus : ℕ) → bus < 256
      → HasRanges (row_at room.rows (row_number (bus_level q.roots bus) space)) (there_then q s k space bus)

-- what does not hang on what is kept: a place for each window and each row, and rows in order
pub record IsRoom (functions : ℕ) (room : Room) : Type 0 where
  pub wished : length room.wished ≡ functions
  pub rows : length room.rows ≡ 514
  pub flags : length room.rising ≡ 514
  pub rising : AreRising room
  pub order : (n : ℕ) → FirstsRise (row_at room.rows n)

-- a window ends later
pub record IsEnded (old new : Room) (w : BridgeWindow) (row : ℕ) (window : Range) (last : ℕ) : Type 0 where
  pub told_is : told new.wished w.bridge w.class ≡ Some record { first = window.first; last = last }
  pub others : TellsSame old.wished new.wished w.bridge w.class
  pub ended : IsEndedIn (row_at old.rows row) (row_at new.rows row) window last
  pub rest : AreSameBut old.rows new.rows row

-- a window is opened
pub record IsWindowOpened (old new : Room) (w : BridgeWindow) (row : ℕ) (range : Range) : Type 0 where
  pub told_is : told new.wished w.bridge w.class ≡ Some range
  pub others : TellsSame old.wished new.wished w.bridge w.class
  pub added : IsAddedTo (row_at old.rows row) (row_at new.rows row) range
  pub rest : AreSameBut old.rows new.rows row
