-- The parts of a function that settling looks at, and the class of each (Bridge 1.2, chapter 4).
use Rattle.std.specs.Prelude.{ℕ, ◌==◌, nat_le, Bool, true, false, ◌&&◌, ◌||◌, not, if◌then◌else◌, List, [], ◌∷◌, ◌++◌, map, Option, None, Some}
use Rattle.std.specs.List.{list_any, filter, find, flat_map, range_with_len}
use Rattle.pci_spec.specs.Header.{layout, bar_count}
use Rattle.pci_spec.specs.Bar.{bar_at, has_bar, is_io, is_prefetchable}
use Rattle.pci_spec.specs.Rom.{has_rom, rom_is_on}
use Rattle.pci_spec.specs.Window.{WindowKind, IoWindow, MemoryWindow, PrefetchWindow, has_window}
use Rattle.pci_spec.specs.Decoded.{Range}
use Rattle.pci_spec.specs.System.{System, Function, Space, Io, Memory, Part, Bar, Rom, Window, is_bridge, is_implemented}
use Rattle.pci_spec.specs.Bus.{secondary, is_root}
use Rattle.plan_spec.specs.Plan.{Pools, bridges_above, greatest, is_io_part, is_open, is_served}
use Rattle.plan_spec.specs.Planning.Layout.{range_of}
use Rattle.settle_spec.specs.Lists.{RootRange, Request}

abbrev pub is_empty : List RootRange → Bool
is_empty [] = true
is_empty (r ∷ more) = false

-- whether an I/O BAR is left: there is no range of I/O, or a bridge above has no I/O window
abbrev pub is_left : Request → System → Function → Part → Bool
is_left q s f p =
    is_io_part f p && (is_empty q.lists.io
    || list_any (λ b. not (has_window IoWindow b.probe)) (bridges_above s f.slot.bus))

-- whether a part is looked at: an implemented BAR that isn't left, a ROM that is on, or an open window
abbrev pub is_part : Request → System → Function → Part → Bool
is_part q s f (Bar n) = has_bar f.probe n && not (is_left q s f (Bar n))
is_part q s f Rom = has_rom f.image f.probe && rom_is_on f.image
is_part q s f (Window kind) = is_open f kind

-- BARs, windows and ROM, in the order of their registers
abbrev pub header_bars : Function → List Part
header_bars f = map Bar (range_with_len 0 (bar_count (layout f.image)))

abbrev pub header_parts : Function → List Part
header_parts f =
    header_bars f ++ Window IoWindow ∷ Window MemoryWindow ∷ Window PrefetchWindow ∷ Rom ∷ []

abbrev pub parts_of : Request → System → Function → List Part
parts_of q s f = filter (is_part q s f) (header_parts f)

-- a function has a BAR that is left
abbrev pub has_left : Request → System → Function → Bool
has_left q s f = list_any (λ p. is_implemented f p && is_left q s f p) (header_bars f)

-- ---- classes

-- the bridge whose secondary bus it is
abbrev pub bridge_over : System → ℕ → Option Function
bridge_over s bus = find (λ b. is_bridge b && secondary b == bus) s

-- whether a range lies in another
abbrev pub lies_within : Range → Range → Bool
lies_within inner outer = nat_le outer.first inner.first && nat_le inner.last outer.last

-- whether a window of the bridge is open and holds a range whole
abbrev pub holds_range : WindowKind → Range → Option Function → Bool
holds_range kind r None = false
holds_range kind r (Some b) = is_open b kind && lies_within r (range_of b (Window kind))

-- one pool for each class, which ends where the list of prefetchable memory does
abbrev pub upper_pools : List RootRange → Pools
upper_pools list = record {
  io = record { first = 0; last = 0 };
  memory = record { first = 0; last = 0 };
  prefetch = record { first = 0; last = greatest (map (λ (r : RootRange). r.range.last) list) };
}

-- the class of a prefetchable BAR that no window holds: as in planning, by the last prefetchable address
abbrev pub new_class : Request → System → Function → ℕ → WindowKind
new_class q s f n =
    if not (is_empty q.lists.prefetch) && is_served s (upper_pools q.lists.prefetch) f n
    then PrefetchWindow else MemoryWindow

-- whether the memory window over a BAR's bus holds it
abbrev pub is_in_memory : System → Function → ℕ → Bool
is_in_memory s f n = holds_range MemoryWindow (range_of f (Bar n)) (bridge_over s f.slot.bus)

-- whether the prefetchable one does, and each bridge above has one
abbrev pub is_in_prefetch : System → Function → ℕ → Bool
is_in_prefetch s f n =
    holds_range PrefetchWindow (range_of f (Bar n)) (bridge_over s f.slot.bus)
    && not (list_any (λ b. not (has_window PrefetchWindow b.probe)) (bridges_above s f.slot.bus))

abbrev pub prefetchable_class : Request → System → Function → ℕ → WindowKind
prefetchable_class q s f n =
    if q.anew || is_root q.roots f.slot.bus then new_class q s f n
    else if is_in_memory s f n then MemoryWindow
    else if is_in_prefetch s f n then PrefetchWindow
    else new_class q s f n

abbrev pub class_in : Request → System → Function → Part → WindowKind
class_in q s f (Bar n) =
    if is_io (bar_at f.probe n) then IoWindow
    else if is_prefetchable (bar_at f.probe n) then prefetchable_class q s f n
    else MemoryWindow
class_in q s f Rom = MemoryWindow
class_in q s f (Window kind) = kind

-- ---- all of a system

-- a part with its function
pub record FunctionPart : Type 0 where
  pub function : Function
  pub part : Part

abbrev pub function_parts : Request → System → Function → List FunctionPart
function_parts q s f = map (λ p. record { function = f; part = p }) (parts_of q s f)

abbrev pub system_parts : Request → System → List FunctionPart
system_parts q s = flat_map (function_parts q s) s

abbrev pub addresses : FunctionPart → Range
addresses r = range_of r.function r.part

abbrev pub are_same_space : Space → Space → Bool
are_same_space Io Io = true
are_same_space Memory Memory = true
are_same_space a b = false
