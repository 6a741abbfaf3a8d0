-- Where everything is placed: the worked places of small trees.
use Rattle.std.proofs.Common.{◌≡◌, ℕ, List, [], ◌∷◌, refl, map, Some}
use Rattle.pci_spec.specs.Window.{WindowKind, IoWindow, MemoryWindow, PrefetchWindow, bounds_at, closed_bounds}
use Rattle.pci_spec.specs.Decoded.{window_range}
use Rattle.pci_spec.specs.System.{Function, System, Bar, Rom, Window}
use Rattle.plan_spec.specs.Plan.{Pools, doubled_to, items_within}
use Rattle.plan_spec.specs.Place.{Item, part_item, window_item, start_within, place_of, first_of, nibble_of, range_from}
use Rattle.pci_spec.proofs.Examples.Samples.{slot, device, bridge, host}
use Rattle.plan_spec.proofs.Examples.Plans.{pools, three, pool}
use Rattle.plan_spec.proofs.Examples.Placed.{start}

-- the places of items, in a system with one root
abbrev places : System → Pools → WindowKind → List Item → List ℕ
places s p c items = map (place_of host s p c) items

-- ---- a bridge with two BARs behind it, beside a device

abbrev first_bridge : Function
first_bridge = bridge (slot 0 1 0) 0 0x10100 [] []

abbrev beside_it : Function
beside_it = device (slot 0 2 0) 0 [] ((0x10, 0xfff00000) ∷ [])

abbrev behind_it : Function
behind_it = device (slot 1 0 0) 0 [] ((0x10, 0xfff00000) ∷ (0x14, 0xfffff000) ∷ [])

window_then_bars : places start pools MemoryWindow (window_item start pools MemoryWindow first_bridge ∷ part_item beside_it (Bar 0) ∷ part_item behind_it (Bar 0) ∷ part_item behind_it (Bar 1) ∷ [])
    ≡ 0xe0000000 ∷ 0xe0200000 ∷ 0xe0000000 ∷ 0xe0100000 ∷ []
unfolding start_within items_within doubled_to
window_then_bars = refl

-- ---- a BAR of 4 KB and a ROM of 64 KB, from an address that is no multiple

abbrev with_rom : Function
with_rom = device (slot 0 1 0) 0 [] ((0x10, 0xfffff000) ∷ (0x30, 0xffff0000) ∷ [])

rom_first : places (with_rom ∷ []) (three (pool 0x1000 0xffff) (pool 0xe0000800 0xe0020fff) (pool 0x100000000 0x1ffffffff)) MemoryWindow (part_item with_rom (Bar 0) ∷ part_item with_rom Rom ∷ [])
    ≡ 0xe0020000 ∷ 0xe0010000 ∷ []
unfolding start_within items_within doubled_to
rom_first = refl

-- ---- two roots side by side

abbrev on_root_0 : Function
on_root_0 = device (slot 0 1 0) 0 [] ((0x10, 0xfff00000) ∷ [])

abbrev on_root_40 : Function
on_root_40 = device (slot 0x40 1 0) 0 [] ((0x10, 0xfff00000) ∷ [])

roots_are_one_bus : map (place_of (0 ∷ 0x40 ∷ []) (on_root_0 ∷ on_root_40 ∷ []) pools MemoryWindow) (part_item on_root_0 (Bar 0) ∷ part_item on_root_40 (Bar 0) ∷ [])
    ≡ 0xe0000000 ∷ 0xe0100000 ∷ []
unfolding start_within items_within doubled_to
roots_are_one_bus = refl

-- a larger item of a later root comes first
abbrev larger_on_root_40 : Function
larger_on_root_40 = device (slot 0x40 1 0) 0 [] ((0x10, 0xffe00000) ∷ [])

largest_of_all_roots_comes_first : map (place_of (0 ∷ 0x40 ∷ []) (on_root_0 ∷ larger_on_root_40 ∷ []) pools MemoryWindow) (part_item on_root_0 (Bar 0) ∷ part_item larger_on_root_40 (Bar 0) ∷ [])
    ≡ 0xe0200000 ∷ 0xe0000000 ∷ []
unfolding start_within items_within doubled_to
largest_of_all_roots_comes_first = refl

-- ---- I/O behind a bridge

abbrev io_bridge : Function
io_bridge = bridge (slot 0 1 0) 0 0x10100 [] ((0x1c, 0xf0f0) ∷ [])

abbrev io_device : Function
io_device = device (slot 1 0 0) 0 ((0x10, 1) ∷ []) ((0x10, 0xffffff01) ∷ [])

io_in_its_window : places (io_bridge ∷ io_device ∷ []) pools IoWindow (window_item (io_bridge ∷ io_device ∷ []) pools IoWindow io_bridge ∷ part_item io_device (Bar 0) ∷ []) ≡ 0x1000 ∷ 0x1000 ∷ []
unfolding start_within items_within doubled_to
io_in_its_window = refl

-- ---- a wide prefetchable BAR behind a wide window

abbrev wide_bridge : Function
wide_bridge = bridge (slot 0 1 0) 2 0x10100 ((0x20, 0xfff0) ∷ (0x24, 0xff10001) ∷ (0x28, 1) ∷ (0x2c, 1) ∷ []) ((0x24, 0xfff1fff1) ∷ (0x28, 0xffffffff) ∷ (0x2c, 0xffffffff) ∷ [])

abbrev wide_device : Function
wide_device = device (slot 1 0 0) 2 ((0x10, 0xc) ∷ (0x14, 1) ∷ []) ((0x10, 0xf000000c) ∷ (0x14, 0xffffffff) ∷ [])

above_4_gb : places (wide_bridge ∷ wide_device ∷ []) pools PrefetchWindow (window_item (wide_bridge ∷ wide_device ∷ []) pools PrefetchWindow wide_bridge ∷ part_item wide_device (Bar 0) ∷ [])
    ≡ 0x100000000 ∷ 0x100000000 ∷ []
unfolding start_within items_within doubled_to
above_4_gb = refl

wide_bar_starts_there : first_of wide_device (Bar 0) ≡ 0x100000000
wide_bar_starts_there = refl

rom_starts_there : map (λ value. first_of (device (slot 0 1 0) 0 ((0x30, value) ∷ []) ((0x30, 0xffff0000) ∷ [])) Rom) (0xe0010000 ∷ 0xe0010001 ∷ []) ≡ 0xe0010000 ∷ 0xe0010000 ∷ []
rom_starts_there = refl

wide_window_is_all_of_it : window_range PrefetchWindow wide_bridge.image ≡ Some (range_from 0x100000000 0x10000000)
wide_window_is_all_of_it = refl

-- ---- closed windows

closed_memory : bounds_at MemoryWindow wide_bridge.image ≡ closed_bounds MemoryWindow (nibble_of MemoryWindow wide_bridge)
closed_memory = refl

closed_io : map (closed_bounds IoWindow) (0 ∷ 1 ∷ []) ≡ record { base = 0xf0; limit = 0; base_upper = 0; limit_upper = 0 } ∷ record { base = 0xf1; limit = 1; base_upper = 0; limit_upper = 0 } ∷ []
closed_io = refl

closed_prefetchable : map (closed_bounds PrefetchWindow) (0 ∷ 1 ∷ []) ≡ record { base = 0xfff0; limit = 0; base_upper = 0; limit_upper = 0 } ∷ record { base = 0xfff1; limit = 1; base_upper = 0; limit_upper = 0 } ∷ []
closed_prefetchable = refl

low_nibbles : map (λ kind. nibble_of kind wide_bridge) (IoWindow ∷ MemoryWindow ∷ PrefetchWindow ∷ []) ≡ 0 ∷ 0 ∷ 1 ∷ []
low_nibbles = refl

-- ---- two bridges deep: behind what is larger the inner window stands where the outer one's items begin

abbrev outer : Function
outer = bridge (slot 0 1 0) 0 0x20100 [] []

abbrev inner : Function
inner = bridge (slot 1 0 0) 0 0x20201 [] []

abbrev beside_inner : Function
beside_inner = device (slot 1 1 0) 0 [] ((0x10, 0xffe00000) ∷ [])

abbrev behind_inner : Function
behind_inner = device (slot 2 0 0) 0 [] ((0x10, 0xfffff000) ∷ [])

-- and a BAR on the root that is larger than all of these
abbrev on_root : Function
on_root = device (slot 0 2 0) 0 [] ((0x10, 0xff800000) ∷ [])

abbrev deep : System
deep = outer ∷ on_root ∷ inner ∷ beside_inner ∷ behind_inner ∷ []

abbrev roomy : Pools
roomy = three (pool 0x1000 0xffff) (pool 0xe0000000 0xefffffff) (pool 0x100000000 0x1ffffffff)

deep_places : places deep roomy MemoryWindow (part_item on_root (Bar 0) ∷ window_item deep roomy MemoryWindow outer ∷ part_item beside_inner (Bar 0) ∷ window_item deep roomy MemoryWindow inner ∷ part_item behind_inner (Bar 0) ∷ [])
    ≡ 0xe0000000 ∷ 0xe0800000 ∷ 0xe0800000 ∷ 0xe0a00000 ∷ 0xe0a00000 ∷ []
unfolding start_within items_within doubled_to
deep_places = refl

-- ---- ties

-- of one size the lower slot comes first, whatever its registers, and then the lower register
abbrev first_slot : Function
first_slot = device (slot 0 1 0) 0 [] ((0x14, 0xfff00000) ∷ (0x18, 0xfff00000) ∷ [])

abbrev second_slot : Function
second_slot = device (slot 0 2 0) 0 [] ((0x10, 0xfff00000) ∷ (0x30, 0xfff00000) ∷ [])

ties : places (first_slot ∷ second_slot ∷ []) roomy MemoryWindow (part_item first_slot (Bar 1) ∷ part_item first_slot (Bar 2) ∷ part_item second_slot (Bar 0) ∷ part_item second_slot Rom ∷ [])
    ≡ 0xe0000000 ∷ 0xe0100000 ∷ 0xe0200000 ∷ 0xe0300000 ∷ []
unfolding start_within items_within doubled_to
ties = refl

-- a bridge's BAR, its window and its ROM, by register
abbrev bridge_with_all : Function
bridge_with_all = bridge (slot 0 1 0) 0 0x10100 [] ((0x14, 0xfff00000) ∷ (0x38, 0xfff00000) ∷ [])

abbrev small_behind : Function
small_behind = device (slot 1 0 0) 0 [] ((0x10, 0xfffff000) ∷ [])

ties_with_a_window : places (bridge_with_all ∷ small_behind ∷ []) roomy MemoryWindow (part_item bridge_with_all (Bar 1) ∷ window_item (bridge_with_all ∷ small_behind ∷ []) roomy MemoryWindow bridge_with_all ∷ part_item bridge_with_all Rom ∷ [])
    ≡ 0xe0000000 ∷ 0xe0100000 ∷ 0xe0200000 ∷ []
unfolding start_within items_within doubled_to
ties_with_a_window = refl

-- and the prefetchable window, which stands behind a BAR of its size
abbrev wide_with_a_bar : Function
wide_with_a_bar = bridge (slot 0 1 0) 0 0x10100 ((0x10, 0xc) ∷ (0x24, 0x10001) ∷ []) ((0x10, 0xf000000c) ∷ (0x14, 0xffffffff) ∷ (0x24, 0xfff1fff1) ∷ (0x28, 0xffffffff) ∷ (0x2c, 0xffffffff) ∷ [])

bar_before_the_window : places (wide_with_a_bar ∷ wide_device ∷ []) roomy PrefetchWindow (window_item (wide_with_a_bar ∷ wide_device ∷ []) roomy PrefetchWindow wide_with_a_bar ∷ part_item wide_with_a_bar (Bar 0) ∷ part_item wide_device (Bar 0) ∷ [])
    ≡ 0x110000000 ∷ 0x100000000 ∷ 0x110000000 ∷ []
unfolding start_within items_within doubled_to
bar_before_the_window = refl

windows_of_items : map (λ c. (window_item start pools c first_bridge).part) (IoWindow ∷ MemoryWindow ∷ PrefetchWindow ∷ []) ≡ Window IoWindow ∷ Window MemoryWindow ∷ Window PrefetchWindow ∷ []
windows_of_items = refl

-- a window of unset numbers has the low nibble of its read back
nibble_by_the_read_back : nibble_of PrefetchWindow (bridge (slot 0 1 0) 0 0x10100 [] ((0x24, 0xfff1fff1) ∷ (0x28, 0xffffffff) ∷ (0x2c, 0xffffffff) ∷ [])) ≡ 1
nibble_by_the_read_back = refl
