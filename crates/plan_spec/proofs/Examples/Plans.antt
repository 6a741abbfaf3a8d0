-- Planning: pools, classes, what a bus needs, and whether it fits.
use Rattle.std.proofs.Common.{◌≡◌, ℕ, List, [], ◌∷◌, refl, true, false, map}
use Rattle.pci_spec.specs.Window.{WindowKind, IoWindow, MemoryWindow, PrefetchWindow}
use Rattle.pci_spec.specs.System.{Function, System, Bar, Rom, Window, Memory, Io}
use Rattle.pci_spec.specs.Decoded.{Range}
use Rattle.plan_spec.specs.Plan.{Pools, are_bad, class_of, size_of, window_size, doubled_to, limited, items_within, items_on, need_of, fits, raised_to, greatest, need_of_roots, greatest_of_roots, bridges_above, pool_of, same_class, wants}
use Rattle.pci_spec.proofs.Examples.Samples.{slot, device, bridge, host}
use Rattle.std.specs.List.{flat_map}

-- ---- pools

abbrev pub pool : ℕ → ℕ → Range
pool a b = record { first = a; last = b }

abbrev pub three : Range → Range → Range → Pools
three io memory prefetch = record { io = io; memory = memory; prefetch = prefetch }

abbrev pub pools : Pools
pools = three (pool 0x1000 0xffff) (pool 0xe0000000 0xe02fffff) (pool 0x100000000 0x1ffffffff)

-- the prefetchable pool below 4 GB
abbrev low_pools : Pools
low_pools = three (pool 0x1000 0xffff) (pool 0xe0000000 0xe02fffff) (pool 0xf0000000 0xffffffff)

these_are_good : are_bad pools ≡ false
these_are_good = refl

one_address_each : are_bad (three (pool 0xffff 0xffff) (pool 0xffffffff 0xffffffff) (pool 0 0)) ≡ false
one_address_each = refl

io_above_16_bits : are_bad (three (pool 0x1000 0x10000) (pool 0 0xffffffff) (pool 0x100000000 0x1ffffffff)) ≡ true
io_above_16_bits = refl

memory_above_32_bits : are_bad (three (pool 0x1000 0xffff) (pool 0 0x100000000) (pool 0x200000000 0x2ffffffff)) ≡ true
memory_above_32_bits = refl

backward_io : are_bad (three (pool 2 1) (pool 0 0xffffffff) (pool 0x100000000 0x1ffffffff)) ≡ true
backward_io = refl

backward_memory : are_bad (three (pool 0x1000 0xffff) (pool 2 1) (pool 0x100000000 0x1ffffffff)) ≡ true
backward_memory = refl

backward_prefetchable : are_bad (three (pool 0x1000 0xffff) (pool 0 1) (pool 0x100000001 0x100000000)) ≡ true
backward_prefetchable = refl

memory_and_prefetchable_share_an_address : are_bad (three (pool 0x1000 0xffff) (pool 0xe0000000 0xefffffff) (pool 0xefffffff 0xffffffff)) ≡ true
memory_and_prefetchable_share_an_address = refl

prefetchable_and_memory_share_an_address : are_bad (three (pool 0x1000 0xffff) (pool 0xe0000000 0xefffffff) (pool 0xd0000000 0xe0000000)) ≡ true
prefetchable_and_memory_share_an_address = refl

memory_and_prefetchable_meet : are_bad (three (pool 0x1000 0xffff) (pool 0xe0000000 0xefffffff) (pool 0xf0000000 0xffffffff)) ≡ false
memory_and_prefetchable_meet = refl

prefetchable_and_memory_meet : are_bad (three (pool 0x1000 0xffff) (pool 0xe0000000 0xefffffff) (pool 0xd0000000 0xdfffffff)) ≡ false
prefetchable_and_memory_meet = refl

io_may_lie_where_memory_does : are_bad (three (pool 0 0xffff) (pool 0 0xffff) (pool 0x10000 0x1ffff)) ≡ false
io_may_lie_where_memory_does = refl

-- ---- classes

-- a bridge without, with a plain and with a wide prefetchable window, and what is behind it
abbrev bare : Function
bare = bridge (slot 0 1 0) 0 0x10100 [] []

abbrev narrow : Function
narrow = bridge (slot 0 1 0) 0 0x10100 [] ((0x24, 0xfff0fff0) ∷ [])

abbrev wide : Function
wide = bridge (slot 0 1 0) 0 0x10100 ((0x24, 0x00010001) ∷ []) ((0x24, 0xfff1fff1) ∷ (0x28, 0xffffffff) ∷ (0x2c, 0xffffffff) ∷ [])

-- BARs: plain, prefetchable, prefetchable of 64 bits, I/O
abbrev mixed : ℕ → Function
mixed bus = device (slot bus 0 0) 0 ((0x14, 8) ∷ (0x18, 0xc) ∷ (0x24, 1) ∷ []) ((0x10, 0xfff00000) ∷ (0x14, 0xfff00008) ∷ (0x18, 0xf000000c) ∷ (0x1c, 0xffffffff) ∷ (0x24, 0xffffff01) ∷ (0x30, 0xffff0000) ∷ [])

abbrev classes : System → Pools → ℕ → List WindowKind
classes s p bus = map (class_of s p (mixed bus)) (Bar 0 ∷ Bar 1 ∷ Bar 2 ∷ Bar 5 ∷ Rom ∷ [])

on_a_root_with_a_low_pool : classes (mixed 0 ∷ []) low_pools 0 ≡ MemoryWindow ∷ PrefetchWindow ∷ PrefetchWindow ∷ IoWindow ∷ MemoryWindow ∷ []
on_a_root_with_a_low_pool = refl

on_a_root_with_a_high_pool : classes (mixed 0 ∷ []) pools 0 ≡ MemoryWindow ∷ MemoryWindow ∷ PrefetchWindow ∷ IoWindow ∷ MemoryWindow ∷ []
on_a_root_with_a_high_pool = refl

behind_no_prefetchable_window : classes (bare ∷ mixed 1 ∷ []) low_pools 1 ≡ MemoryWindow ∷ MemoryWindow ∷ MemoryWindow ∷ IoWindow ∷ MemoryWindow ∷ []
behind_no_prefetchable_window = refl

behind_a_plain_one_with_a_low_pool : classes (narrow ∷ mixed 1 ∷ []) low_pools 1 ≡ MemoryWindow ∷ PrefetchWindow ∷ PrefetchWindow ∷ IoWindow ∷ MemoryWindow ∷ []
behind_a_plain_one_with_a_low_pool = refl

behind_a_plain_one_with_a_high_pool : classes (narrow ∷ mixed 1 ∷ []) pools 1 ≡ MemoryWindow ∷ MemoryWindow ∷ MemoryWindow ∷ IoWindow ∷ MemoryWindow ∷ []
behind_a_plain_one_with_a_high_pool = refl

behind_a_wide_one_with_a_low_pool : classes (wide ∷ mixed 1 ∷ []) low_pools 1 ≡ MemoryWindow ∷ PrefetchWindow ∷ PrefetchWindow ∷ IoWindow ∷ MemoryWindow ∷ []
behind_a_wide_one_with_a_low_pool = refl

behind_a_wide_one_with_a_high_pool : classes (wide ∷ mixed 1 ∷ []) pools 1 ≡ MemoryWindow ∷ MemoryWindow ∷ PrefetchWindow ∷ IoWindow ∷ MemoryWindow ∷ []
behind_a_wide_one_with_a_high_pool = refl

pool_across_4_gb_counts_as_high : classes (narrow ∷ mixed 1 ∷ []) (three (pool 0x1000 0xffff) (pool 0xe0000000 0xe02fffff) (pool 0xf0000000 0x100000000)) 1 ≡ MemoryWindow ∷ MemoryWindow ∷ MemoryWindow ∷ IoWindow ∷ MemoryWindow ∷ []
pool_across_4_gb_counts_as_high = refl

every_bridge_above_counts : classes (bridge (slot 0 1 0) 0 0x20100 [] [] ∷ bridge (slot 1 0 0) 0 0x20201 [] ((0x24, 0xfff0fff0) ∷ []) ∷ mixed 2 ∷ []) low_pools 2 ≡ MemoryWindow ∷ MemoryWindow ∷ MemoryWindow ∷ IoWindow ∷ MemoryWindow ∷ []
every_bridge_above_counts = refl

sizes : map (size_of (mixed 0)) (Bar 0 ∷ Bar 2 ∷ Bar 5 ∷ Rom ∷ []) ≡ 0x100000 ∷ 0x10000000 ∷ 0x100 ∷ 0x10000 ∷ []
sizes = refl

window_has_no_size_of_its_own : size_of bare (Window MemoryWindow) ≡ 0
window_has_no_size_of_its_own = refl

bridges_above_a_bus : map (λ (f : Function). f.slot) (bridges_above (bridge (slot 0 1 0) 0 0x20100 [] [] ∷ bridge (slot 0 2 0) 0 0x30300 [] [] ∷ bridge (slot 1 0 0) 0 0x20201 [] [] ∷ []) 2) ≡ slot 0 1 0 ∷ slot 1 0 0 ∷ []
bridges_above_a_bus = refl

-- ---- sizes of windows, and starts

window_of_memory : map (window_size MemoryWindow) (1 ∷ 0x100000 ∷ 0x100001 ∷ 0x101000 ∷ 0x300000 ∷ []) ≡ 0x100000 ∷ 0x100000 ∷ 0x200000 ∷ 0x200000 ∷ 0x400000 ∷ []
unfolding doubled_to
window_of_memory = refl

window_of_prefetchable_memory : map (window_size PrefetchWindow) (1 ∷ 0x10000000 ∷ []) ≡ 0x100000 ∷ 0x10000000 ∷ []
unfolding doubled_to
window_of_prefetchable_memory = refl

window_of_io : map (window_size IoWindow) (1 ∷ 0x1000 ∷ 0x1001 ∷ []) ≡ 0x1000 ∷ 0x1000 ∷ 0x2000 ∷ []
unfolding doubled_to
window_of_io = refl

greatest_window : window_size MemoryWindow 0x20000000000000000 ≡ 0x20000000000000000
unfolding doubled_to
greatest_window = refl

need_is_capped : map limited (0x1ffffffffffffffff ∷ 0x20000000000000000 ∷ 0x20000000000000001 ∷ []) ≡ 0x1ffffffffffffffff ∷ 0x20000000000000000 ∷ 0x20000000000000000 ∷ []
need_is_capped = refl

raised_to_a_multiple : map (raised_to 0x1000) (0 ∷ 1 ∷ 0xfff ∷ 0x1000 ∷ 0x1001 ∷ []) ≡ 0 ∷ 0x1000 ∷ 0x1000 ∷ 0x1000 ∷ 0x2000 ∷ []
raised_to_a_multiple = refl

greatest_of_sizes : greatest (0x1000 ∷ 0x10000 ∷ 0x100 ∷ []) ≡ 0x10000
greatest_of_sizes = refl

-- ---- what a bus needs

abbrev small_tree : System
small_tree = bare ∷ device (slot 0 2 0) 0 [] ((0x10, 0xfff00000) ∷ []) ∷ device (slot 1 0 0) 0 [] ((0x10, 0xfff00000) ∷ (0x14, 0xfffff000) ∷ []) ∷ []

bars_then_windows : items_on small_tree pools MemoryWindow 0 ≡ 0x100000 ∷ 0x200000 ∷ []
unfolding items_within doubled_to
bars_then_windows = refl

bars_behind_the_bridge : items_on small_tree pools MemoryWindow 1 ≡ 0x100000 ∷ 0x1000 ∷ []
unfolding items_within doubled_to
bars_behind_the_bridge = refl

no_window_without_need : items_on small_tree pools IoWindow 0 ≡ []
unfolding items_within doubled_to
no_window_without_need = refl

need_is_the_sum : need_of small_tree pools MemoryWindow 0 ≡ 0x300000
unfolding items_within doubled_to
need_is_the_sum = refl

wide_prefetchable_window : items_on (wide ∷ device (slot 1 0 0) 0 ((0x10, 0xc) ∷ []) ((0x10, 0xf000000c) ∷ (0x14, 0xffffffff) ∷ []) ∷ []) pools PrefetchWindow 0 ≡ 0x10000000 ∷ []
unfolding items_within doubled_to
wide_prefetchable_window = refl

two_bridges_deep : items_on (bridge (slot 0 1 0) 0 0x20100 [] [] ∷ bridge (slot 1 0 0) 0 0x20201 [] [] ∷ device (slot 1 1 0) 0 [] ((0x10, 0xfff00000) ∷ []) ∷ device (slot 2 0 0) 0 [] ((0x10, 0xfffff000) ∷ []) ∷ []) pools MemoryWindow 0 ≡ 0x200000 ∷ []
unfolding items_within doubled_to
two_bridges_deep = refl

-- five BARs of half of memory behind a bridge: more than 2 ^ 65
abbrev too_much : System
too_much =
    bare
    ∷ device (slot 1 0 0) 0 ((0x10, 4) ∷ (0x18, 4) ∷ (0x20, 4) ∷ []) ((0x10, 4) ∷ (0x14, 0x80000000) ∷ (0x18, 4) ∷ (0x1c, 0x80000000) ∷ (0x20, 4) ∷ (0x24, 0x80000000) ∷ [])
    ∷ device (slot 1 1 0) 0 ((0x10, 4) ∷ (0x18, 4) ∷ []) ((0x10, 4) ∷ (0x14, 0x80000000) ∷ (0x18, 4) ∷ (0x1c, 0x80000000) ∷ []) ∷ []

need_behind_is_capped : need_of too_much pools MemoryWindow 1 ≡ 0x20000000000000000
unfolding items_within doubled_to
need_behind_is_capped = refl

window_of_a_capped_need : items_on too_much pools MemoryWindow 0 ≡ 0x20000000000000000 ∷ []
unfolding items_within doubled_to
window_of_a_capped_need = refl

-- ---- what fits

filled_to_the_byte : fits host small_tree pools MemoryWindow ≡ true
unfolding items_within doubled_to
filled_to_the_byte = refl

one_byte_short : fits host small_tree (three (pool 0x1000 0xffff) (pool 0xe0000000 0xe02ffffe) (pool 0x100000000 0x1ffffffff)) MemoryWindow ≡ false
unfolding items_within doubled_to
one_byte_short = refl

class_without_items_fits : fits host small_tree (three (pool 0xffff 0xffff) (pool 0xe0000000 0xe02fffff) (pool 0x100000000 0x1ffffffff)) IoWindow ≡ true
unfolding items_within doubled_to
class_without_items_fits = refl

-- a BAR of 4 KB and a ROM of 64 KB: the start is raised to a multiple of the greatest
abbrev pub with_rom : System
with_rom = device (slot 0 1 0) 0 [] ((0x10, 0xfffff000) ∷ (0x30, 0xffff0000) ∷ []) ∷ []

raised_and_filled_to_the_byte : fits host with_rom (three (pool 0x1000 0xffff) (pool 0xe0000800 0xe0020fff) (pool 0x100000000 0x1ffffffff)) MemoryWindow ≡ true
unfolding items_within doubled_to
raised_and_filled_to_the_byte = refl

raised_and_one_byte_short : fits host with_rom (three (pool 0x1000 0xffff) (pool 0xe0000800 0xe0020ffe) (pool 0x100000000 0x1ffffffff)) MemoryWindow ≡ false
unfolding items_within doubled_to
raised_and_one_byte_short = refl

-- two roots are placed as one bus
abbrev two_roots : System
two_roots = device (slot 0 1 0) 0 [] ((0x10, 0xfff00000) ∷ []) ∷ device (slot 0x40 1 0) 0 [] ((0x10, 0xfff00000) ∷ []) ∷ []

need_of_two_roots : need_of_roots (0 ∷ 0x40 ∷ []) two_roots pools MemoryWindow ∷ greatest_of_roots (0 ∷ 0x40 ∷ []) two_roots pools MemoryWindow ∷ [] ≡ 0x200000 ∷ 0x100000 ∷ []
unfolding items_within doubled_to
need_of_two_roots = refl

two_roots_filled_to_the_byte : fits (0 ∷ 0x40 ∷ []) two_roots (three (pool 0x1000 0xffff) (pool 0xe0000000 0xe01fffff) (pool 0x100000000 0x1ffffffff)) MemoryWindow ≡ true
unfolding items_within doubled_to
two_roots_filled_to_the_byte = refl

two_roots_one_byte_short : fits (0 ∷ 0x40 ∷ []) two_roots (three (pool 0x1000 0xffff) (pool 0xe0000000 0xe01ffffe) (pool 0x100000000 0x1ffffffff)) MemoryWindow ≡ false
unfolding items_within doubled_to
two_roots_one_byte_short = refl

greatest_item_of_all_roots_raises_the_start : fits (0 ∷ 0x40 ∷ []) (device (slot 0 1 0) 0 [] ((0x10, 0xfffff000) ∷ []) ∷ device (slot 0x40 1 0) 0 [] ((0x10, 0xfff00000) ∷ []) ∷ []) (three (pool 0x1000 0xffff) (pool 0xe0001000 0xe0200fff) (pool 0x100000000 0x1ffffffff)) MemoryWindow ≡ true
unfolding items_within doubled_to
greatest_item_of_all_roots_raises_the_start = refl

and_no_less : fits (0 ∷ 0x40 ∷ []) (device (slot 0 1 0) 0 [] ((0x10, 0xfffff000) ∷ []) ∷ device (slot 0x40 1 0) 0 [] ((0x10, 0xfff00000) ∷ []) ∷ []) (three (pool 0x1000 0xffff) (pool 0xe0001000 0xe0200ffe) (pool 0x100000000 0x1ffffffff)) MemoryWindow ≡ false
unfolding items_within doubled_to
and_no_less = refl

-- ---- more classes

same_classes : flat_map (λ c. map (same_class c) (IoWindow ∷ MemoryWindow ∷ PrefetchWindow ∷ [])) (IoWindow ∷ MemoryWindow ∷ PrefetchWindow ∷ [])
    ≡ true ∷ false ∷ false ∷ false ∷ true ∷ false ∷ false ∷ false ∷ true ∷ []
same_classes = refl

-- a wide window below a plain one, and a wide prefetchable BAR behind both
abbrev wide_below_plain : System
wide_below_plain =
    bridge (slot 0 1 0) 0 0x20100 [] ((0x24, 0xfff0fff0) ∷ [])
    ∷ bridge (slot 1 0 0) 0 0x20201 ((0x24, 0x00010001) ∷ []) ((0x24, 0xfff1fff1) ∷ (0x28, 0xffffffff) ∷ (0x2c, 0xffffffff) ∷ [])
    ∷ device (slot 2 0 0) 0 ((0x10, 0xc) ∷ []) ((0x10, 0xf000000c) ∷ (0x14, 0xffffffff) ∷ []) ∷ []

every_window_above_has_to_be_wide : class_of wide_below_plain pools (device (slot 2 0 0) 0 ((0x10, 0xc) ∷ []) ((0x10, 0xf000000c) ∷ (0x14, 0xffffffff) ∷ [])) (Bar 0) ≡ MemoryWindow
every_window_above_has_to_be_wide = refl

-- ---- more items

-- five buses, one below the other
abbrev pub deep : System
deep =
    bridge (slot 0 0 0) 0 0x40100 [] [] ∷ bridge (slot 1 0 0) 0 0x40201 [] [] ∷ bridge (slot 2 0 0) 0 0x40302 [] [] ∷ bridge (slot 3 0 0) 0 0x40403 [] []
    ∷ device (slot 4 0 0) 0 [] ((0x10, 0xfff00000) ∷ []) ∷ []

four_bridges_deep : items_on deep pools MemoryWindow 0 ≡ 0x100000 ∷ []
unfolding items_within doubled_to
four_bridges_deep = refl

-- a bridge's own BAR is an item of its own bus
abbrev bridge_with_a_bar : Function
bridge_with_a_bar = bridge (slot 0 1 0) 0 0x10100 [] ((0x10, 0xffff0000) ∷ [])

bridges_own_bar_is_on_its_bus : items_on (bridge_with_a_bar ∷ []) pools MemoryWindow 0 ≡ 0x10000 ∷ []
unfolding items_within doubled_to
bridges_own_bar_is_on_its_bus = refl

bridges_own_bar_wants_memory : wants (bridge (slot 0 1 0) 0 0x10100 ((0x20, 0xfff0) ∷ []) ((0x10, 0xffff0000) ∷ [])) Memory ≡ true
bridges_own_bar_wants_memory = refl

bridges_own_io_bar_wants_io : wants (bridge (slot 0 1 0) 0 0x10100 ((0x10, 1) ∷ []) ((0x10, 0xffffff01) ∷ [])) Io ≡ true
bridges_own_io_bar_wants_io = refl

-- the window of 1 MB is greater than each BAR, and raises the start
abbrev pub small_behind : System
small_behind = bridge (slot 0 1 0) 0 0x10100 [] [] ∷ device (slot 1 0 0) 0 [] ((0x10, 0xfffff000) ∷ []) ∷ []

window_is_the_greatest : greatest_of_roots host small_behind pools MemoryWindow ≡ 0x100000
unfolding items_within doubled_to
window_is_the_greatest = refl

window_raises_the_start : fits host small_behind (three (pool 0x1000 0xffff) (pool 0xe0001000 0xe01ffffe) (pool 0x100000000 0x1ffffffff)) MemoryWindow ≡ false
unfolding items_within doubled_to
window_raises_the_start = refl

-- ---- three classes, three pools

abbrev three_pools : Pools
three_pools = three (pool 0x1000 0x10ff) (pool 0xe0000000 0xe00fffff) (pool 0xf0000000 0xf01fffff)

each_class_has_its_pool : map (pool_of three_pools) (IoWindow ∷ MemoryWindow ∷ PrefetchWindow ∷ []) ≡ pool 0x1000 0x10ff ∷ pool 0xe0000000 0xe00fffff ∷ pool 0xf0000000 0xf01fffff ∷ []
each_class_has_its_pool = refl

-- an I/O BAR of 256 addresses and a prefetchable one of 2 MB fill their pools
abbrev io_and_prefetchable : System
io_and_prefetchable = device (slot 0 1 0) 0 ((0x10, 1) ∷ (0x14, 8) ∷ []) ((0x10, 0xffffff01) ∷ (0x14, 0xffe00008) ∷ []) ∷ []

all_classes_fit : map (fits host io_and_prefetchable three_pools) (IoWindow ∷ MemoryWindow ∷ PrefetchWindow ∷ []) ≡ true ∷ true ∷ true ∷ []
unfolding items_within doubled_to
all_classes_fit = refl

-- the second of two bridges side by side, with a gap in the bus numbers
bridge_of_a_higher_bus : items_on (bridge (slot 0 1 0) 0 0x10100 [] [] ∷ bridge (slot 0 2 0) 0 0x70500 [] [] ∷ device (slot 5 0 0) 0 [] ((0x10, 0xffe00000) ∷ []) ∷ []) pools MemoryWindow 0 ≡ 0x200000 ∷ []
unfolding items_within doubled_to
bridge_of_a_higher_bus = refl

bridges_own_io_bar_is_of_io : class_of (bridge (slot 0 1 0) 0 0x10100 ((0x10, 1) ∷ []) ((0x10, 0xffffff01) ∷ []) ∷ []) pools (bridge (slot 0 1 0) 0 0x10100 ((0x10, 1) ∷ []) ((0x10, 0xffffff01) ∷ [])) (Bar 0) ≡ IoWindow
bridges_own_io_bar_is_of_io = refl
