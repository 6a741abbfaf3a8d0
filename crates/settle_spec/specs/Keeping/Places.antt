-- The places of items beside what is kept: in the lists of their roots, and behind a bridge in its window.
use Rattle.std.specs.Prelude.{ℕ, zero, suc, ◌&&◌, if◌then◌else◌, List, [], ◌∷◌, ◌++◌, map, Option, None, Some}
use Rattle.std.specs.List.{filter}
use Rattle.pci_spec.specs.Window.{IoWindow, MemoryWindow, PrefetchWindow}
use Rattle.pci_spec.specs.Decoded.{Range}
use Rattle.pci_spec.specs.System.{System, Function, Space, Io, Memory, space_of}
use Rattle.pci_spec.specs.Bus.{is_root, are_siblings}
use Rattle.settle_spec.specs.Lines.{lines_on, taken_for}
use Rattle.settle_spec.specs.FirstPlace.{first_place}
use Rattle.settle_spec.specs.Lists.{Request}
use Rattle.settle_spec.specs.Parts.{FunctionPart, system_parts, bridge_over, are_same_space}
use Rattle.settle_spec.specs.Stands.{part_space, window_part}
use Rattle.settle_spec.specs.Items.{PlacingItem, Placed, Placing, AllPlaced, bus_items, new_window, place_each}
use Rattle.settle_spec.specs.Places.{root_ranges, placed_of, place_among, placed_range, first_lack}
use Rattle.settle_spec.specs.Kept.{Kept}

-- the items of a bus in a space: of memory, those of class M come first
abbrev pub space_items : Request → System → Kept → Space → ℕ → List PlacingItem
space_items q s k Io bus = bus_items q s IoWindow k.stays (new_window q s IoWindow) bus
space_items q s k Memory bus =
    bus_items q s MemoryWindow k.stays (new_window q s MemoryWindow) bus
    ++ bus_items q s PrefetchWindow k.stays (new_window q s PrefetchWindow) bus

-- what is taken on a bus in a space by what stays
abbrev pub taken_at : Request → System → Kept → Space → ℕ → List Range
taken_at q s k space bus =
    lines_on q space bus
    ++ map k.range
    (filter (λ r. are_siblings q.roots bus r.function.slot.bus && are_same_space space (part_space r) && k.stays r)
    (system_parts q s))

-- in the window over a bus: in the one that stays, or in the new one at its place
abbrev pub place_behind : Kept → (ℕ → List Placed) → PlacingItem → List Range → Option Function → Option ℕ
place_behind k placed i taken None = None
place_behind k placed i taken (Some b) =
    if k.stays (window_part i.class b) then k.place b i taken
    else first_place (placed_range (place_among (window_part i.class b) (placed b.slot.bus))) taken i.extent

abbrev pub place_of_item : Request → System → Kept → (ℕ → List Placed) → PlacingItem → List Range → Option ℕ
place_of_item q s k placed i taken =
    if is_root q.roots i.region.function.slot.bus then first_place (root_ranges q i) taken i.extent
    else place_behind k placed i taken (bridge_over s i.region.function.slot.bus)

-- the items of a bus at their places, where at most `depth` buses are above one another
unfoldable pub placing_within : Request → System → Kept → Space → ℕ → ℕ → Placing
placing_within q s k space zero bus = AllPlaced []
placing_within q s k space (suc depth) bus =
    place_each
    (λ i taken. place_of_item q s k (λ bus. placed_of (placing_within q s k space depth bus)) i (taken_for q i.region taken))
    (taken_at q s k space bus) (space_items q s k space bus)

-- buses rise on the way down, so 256 of them are all
abbrev pub placing_on : Request → System → Kept → Space → ℕ → Placing
placing_on q s k space bus = placing_within q s k space 256 bus

-- the place that a part gets
abbrev pub new_place : Request → System → Kept → FunctionPart → Option Placed
new_place q s k r =
    place_among r (placed_of (placing_on q s k (space_of r.function r.part) r.function.slot.bus))

-- the first item that has no place on the roots: in I/O, or else in memory
abbrev pub root_lack : Request → System → Kept → ℕ → Option PlacingItem
root_lack q s k root =
    first_lack (placing_on q s k Io root) (first_lack (placing_on q s k Memory root) None)

-- all roots are one bus
abbrev pub lacking_on : Request → System → Kept → List ℕ → Option PlacingItem
lacking_on q s k [] = None
lacking_on q s k (root ∷ roots) = root_lack q s k root

abbrev pub lacking : Request → System → Kept → Option PlacingItem
lacking q s k = lacking_on q s k q.roots
