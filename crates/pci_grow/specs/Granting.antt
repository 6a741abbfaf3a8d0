-- What is wanted behind slots, and what is granted so far.
use Rattle.std.specs.Prelude.{◌≡◌, ℕ, ◌<◌, nat_lt, Bool, false, if◌then◌else◌, List, map, length, Option, None, Some, IfSome, slice_index_or}
use Rattle.std.specs.Option.{option_map}
use Rattle.std.specs.List.{list_any}
use Rattle.pci_spec.specs.Slot.{same_slot}
use Rattle.pci_spec.specs.Window.{WindowKind}
use Rattle.pci_spec.specs.System.{System, Function, is_bridge}
use Rattle.settle_spec.specs.FirstPlace.{Extent as ExtentValue}
use Rattle.settle_spec.specs.Lists.{Request, wanted_in}
use Rattle.settle_spec.specs.Spares.{spare_extent}
use Rattle.settle_spec.specs.Parts.{FunctionPart}
use Rattle.settle_spec.specs.Stands.{window_part}
use Rattle.settle_spec.specs.Items.{highest_in, spare_of}
use Rattle.settle_spec.specs.Wishes.{Granted}
use Rattle.pci_base.specs.declared.window_kind.WindowKind.{WindowKind as CodeKind}
use Rattle.pci_base.specs.declared.window_kind.ByKind.{ByKind}
use Rattle.pci_base.specs.WindowKinds.{kind_value, by_kind}
use Rattle.pci_place.specs.Items.{function_in}
use Rattle.pci_grow.specs.declared.board.Board.{Board}
use Rattle.pci_grow.specs.declared.board.BridgeWindow.{BridgeWindow}
use Rattle.pci_first_fit.specs.declared.extent.Extent.{Extent}
use Rattle.pci_first_fit.specs.Spots.{IsExtent}
use Rattle.pci_grow.specs.Board.{bridge_of_window, window_class, Room, IsRoomOfKept}

-- the spare that is wanted in a window of a function
abbrev pub spare_in : List Bool → ByKind (Option Extent) → BridgeWindow → Option Extent
spare_in slots spares w = if slice_index_or slots w.bridge false then by_kind spares w.class else None

-- each has an address and an alignment
abbrev pub AreExtents : ByKind (Option Extent) → Type 0
AreExtents spares = (class : CodeKind) → IfSome (by_kind spares class) IsExtent

-- it may have any address that the window can hold
abbrev pub spare_up_to : ℕ → Extent → ExtentValue
spare_up_to highest e = record { size = e.size; alignment = e.alignment; highest = highest }

-- these are the spares that are wanted behind bridges
abbrev pub AreSpares : System → List Bool → ByKind (Option Extent) → (WindowKind → Function → Option ExtentValue) → Type 0
AreSpares s slots spares spare =
    (w : BridgeWindow) → w.bridge < length s → spare (window_class w) (bridge_of_window s w)
    ≡ (if is_bridge (bridge_of_window s w)
    then option_map (spare_up_to (highest_in (window_class w) (bridge_of_window s w).probe)) (spare_in slots spares w)
    else None)

abbrev pub part_of : System → BridgeWindow → FunctionPart
part_of s w = window_part (window_class w) (bridge_of_window s w)

-- the room is that where this was granted, and these are the windows whose spares are denied
pub record AreGranted (q : Request) (s : System) (b : Board) (g : Granted) (room : Room) (denied : List BridgeWindow) : Type 0 where
  pub told_is : IsRoomOfKept q s g.kept b room
  pub denied_are : g.denied ≡ map (part_of s) denied

-- flags and extents tell what is asked for: which bridges have a slot, and how large the spares are
pub record TellsSpares (q : Request) (s : System) (slots : List Bool) (spares : ByKind (Option Extent)) : Type 0 where
  pub slot : (k : ℕ) → k < length s
      → slice_index_or slots k false ≡ list_any (same_slot (function_in s k).slot) q.slots
  pub extents : (class : CodeKind) (highest : ℕ)
      → option_map (spare_up_to highest) (by_kind spares class)
      ≡ (if nat_lt 0 (wanted_in q.spares (kind_value class))
      then Some (spare_extent (kind_value class) (wanted_in q.spares (kind_value class)) highest)
      else None)

-- Then the spares are those of the definitions.
abbrev pub SparesAreTold : Type 0
SparesAreTold =
    (q : Request) (s : System) (slots : List Bool) (spares : ByKind (Option Extent))
    → TellsSpares q s slots spares → AreSpares s slots spares (spare_of q)
