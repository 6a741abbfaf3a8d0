-- Systems after a plan's writes: what is placed, open and enabled.
use Rattle.std.proofs.Common.{◌≡◌, List, [], ◌∷◌, refl, true, false, map, lit<, take, zero, suc, subst, arith}
use Rattle.std.proofs.lemmas.Bool.{both_ways}
use Rattle.pci_spec.specs.Window.{IoWindow, MemoryWindow, PrefetchWindow}
use Rattle.pci_spec.specs.System.{Function, System, Io, Memory, bars_and_rom}
use Rattle.pci_spec.specs.Machine.{Write, number_of_bits, writable_bits, clearing_bits, written, system_after}
use Rattle.plan_spec.specs.Plan.{is_open, has_behind, wants, LacksWindow, is_io_part}
use Rattle.pci_spec.proofs.Examples.Samples.{slot, device, bridge, write}
use Rattle.plan_spec.proofs.Examples.Plans.{pools, deep, small_behind}
use Rattle.std.specs.Bool.{IsTrue}
use Rattle.std.specs.List.{Contains, list_any}

-- ---- a bridge with two BARs behind it, beside a device

abbrev pub start : System
start = bridge (slot 0 1 0) 0 0x10100 [] [] ∷ device (slot 0 2 0) 0 [] ((0x10, 0xfff00000) ∷ []) ∷ device (slot 1 0 0) 0 [] ((0x10, 0xfff00000) ∷ (0x14, 0xfffff000) ∷ []) ∷ []

abbrev writes : List Write
writes =
    write (slot 0 1 0) 0x20 4 0xe010e000 ∷ write (slot 0 2 0) 0x10 4 0xe0200000 ∷ write (slot 1 0 0) 0x10 4 0xe0000000 ∷ write (slot 1 0 0) 0x14 4 0xe0100000
    ∷ write (slot 0 1 0) 0x04 2 2 ∷ write (slot 0 2 0) 0x04 2 2 ∷ write (slot 1 0 0) 0x04 2 2 ∷ []

abbrev pub planned : System
planned =
    bridge (slot 0 1 0) 2 0x10100 ((0x20, 0xe010e000) ∷ []) [] ∷ device (slot 0 2 0) 2 ((0x10, 0xe0200000) ∷ []) ((0x10, 0xfff00000) ∷ [])
    ∷ device (slot 1 0 0) 2 ((0x10, 0xe0000000) ∷ (0x14, 0xe0100000) ∷ []) ((0x10, 0xfff00000) ∷ (0x14, 0xfffff000) ∷ []) ∷ []

after_all_writes : system_after start writes ≡ planned
unfolding number_of_bits writable_bits clearing_bits written
after_all_writes = refl

after_two_writes : system_after start (take 2 writes)
    ≡ bridge (slot 0 1 0) 0 0x10100 ((0x20, 0xe010e000) ∷ []) [] ∷ device (slot 0 2 0) 0 ((0x10, 0xe0200000) ∷ []) ((0x10, 0xfff00000) ∷ [])
    ∷ device (slot 1 0 0) 0 [] ((0x10, 0xfff00000) ∷ (0x14, 0xfffff000) ∷ []) ∷ []
unfolding number_of_bits writable_bits clearing_bits written
after_two_writes = refl

after_no_write : system_after start [] ≡ start
after_no_write = refl

-- what changes nothing is closed, then opened again
after_closing_and_opening :
    system_after planned (write (slot 1 0 0) 0x04 2 0 ∷ write (slot 0 2 0) 0x04 2 0 ∷ write (slot 0 1 0) 0x04 2 0 ∷ write (slot 0 1 0) 0x04 2 2 ∷ write (slot 0 2 0) 0x04 2 2 ∷ write (slot 1 0 0) 0x04 2 2 ∷ []) ≡ planned
unfolding number_of_bits writable_bits clearing_bits written
after_closing_and_opening = refl

-- ---- a wide prefetchable BAR behind a wide prefetchable window

abbrev wide_bridge : Function
wide_bridge =
    bridge (slot 0 1 0) 2 0x10100 ((0x20, 0xfff0) ∷ (0x24, 0xff10001) ∷ (0x28, 1) ∷ (0x2c, 1) ∷ [])
    ((0x24, 0xfff1fff1) ∷ (0x28, 0xffffffff) ∷ (0x2c, 0xffffffff) ∷ [])

abbrev wide_device : Function
wide_device = device (slot 1 0 0) 2 ((0x10, 0xc) ∷ (0x14, 1) ∷ []) ((0x10, 0xf000000c) ∷ (0x14, 0xffffffff) ∷ [])

abbrev wide_planned : System
wide_planned = wide_bridge ∷ wide_device ∷ []

after_the_writes_of_a_wide_tree :
    system_after
    (bridge (slot 0 1 0) 0 0x10100 ((0x24, 0x10001) ∷ []) ((0x24, 0xfff1fff1) ∷ (0x28, 0xffffffff) ∷ (0x2c, 0xffffffff) ∷ []) ∷ device (slot 1 0 0) 0 ((0x10, 0xc) ∷ []) ((0x10, 0xf000000c) ∷ (0x14, 0xffffffff) ∷ []) ∷ [])
    (write (slot 0 1 0) 0x20 4 0xfff0 ∷ write (slot 0 1 0) 0x24 4 0xff10001 ∷ write (slot 0 1 0) 0x28 4 1 ∷ write (slot 0 1 0) 0x2c 4 1
    ∷ write (slot 1 0 0) 0x14 4 1 ∷ write (slot 0 1 0) 0x04 2 2 ∷ write (slot 1 0 0) 0x04 2 2 ∷ [])
    ≡ wide_planned
unfolding number_of_bits writable_bits clearing_bits written
after_the_writes_of_a_wide_tree = refl

prefetchable_window_is_open : is_open wide_bridge PrefetchWindow ≡ true
prefetchable_window_is_open = refl

memory_window_is_closed : is_open wide_bridge MemoryWindow ≡ false
memory_window_is_closed = refl

absent_io_window_is_not_open : is_open wide_bridge IoWindow ≡ false
absent_io_window_is_not_open = refl

device_has_no_open_window : is_open wide_device MemoryWindow ≡ false
device_has_no_open_window = refl

prefetchable_bar_is_behind : has_behind wide_planned pools PrefetchWindow wide_bridge ≡ true
prefetchable_bar_is_behind = refl

no_plain_bar_is_behind : has_behind wide_planned pools MemoryWindow wide_bridge ≡ false
no_plain_bar_is_behind = refl

plain_bars_are_behind : map (has_behind planned pools MemoryWindow) (take 1 planned) ≡ true ∷ []
plain_bars_are_behind = refl

bridges_own_bar_is_not_behind_it : has_behind (bridge (slot 0 1 0) 0 0x10100 [] ((0x10, 0xfff00000) ∷ []) ∷ []) pools MemoryWindow (bridge (slot 0 1 0) 0 0x10100 [] ((0x10, 0xfff00000) ∷ [])) ≡ false
bridges_own_bar_is_not_behind_it = refl

open_prefetchable_window_wants_memory : wants wide_bridge Memory ≡ true
open_prefetchable_window_wants_memory = refl

it_wants_no_io : wants wide_bridge Io ≡ false
it_wants_no_io = refl

closed_bridge_wants_nothing : wants (bridge (slot 0 1 0) 0 0x10100 ((0x20, 0xfff0) ∷ []) []) Memory ≡ false
closed_bridge_wants_nothing = refl

open_memory_window_wants_memory : wants (bridge (slot 0 1 0) 0 0x10100 ((0x20, 0xe000e000) ∷ []) []) Memory ≡ true
open_memory_window_wants_memory = refl

open_io_window_wants_io : wants (bridge (slot 0 1 0) 0 0x10100 ((0x1c, 0x1010) ∷ (0x20, 0xfff0) ∷ []) ((0x1c, 0xf0f0) ∷ [])) Io ≡ true
open_io_window_wants_io = refl

io_bar_wants_io_alone : wants (device (slot 0 1 0) 0 ((0x10, 1) ∷ []) ((0x10, 0xffffff01) ∷ [])) Io ∷ wants (device (slot 0 1 0) 0 ((0x10, 1) ∷ []) ((0x10, 0xffffff01) ∷ [])) Memory ∷ [] ≡ true ∷ false ∷ []
io_bar_wants_io_alone = refl

memory_bar_wants_memory_alone : wants wide_device Io ∷ wants wide_device Memory ∷ [] ≡ false ∷ true ∷ []
memory_bar_wants_memory_alone = refl

rom_that_is_off_wants_memory : wants (device (slot 0 1 0) 0 [] ((0x30, 0xffff0000) ∷ [])) Memory ≡ true
rom_that_is_off_wants_memory = refl

-- ---- an I/O window, opened

after_the_writes_of_an_io_tree :
    system_after
    (bridge (slot 0 1 0) 0 0x10100 [] ((0x1c, 0xf0f0) ∷ []) ∷ device (slot 1 0 0) 0 ((0x10, 1) ∷ []) ((0x10, 0xffffff01) ∷ []) ∷ [])
    (write (slot 0 1 0) 0x1c 2 0x1010 ∷ write (slot 0 1 0) 0x20 4 0xfff0 ∷ write (slot 1 0 0) 0x10 4 0x1001 ∷ write (slot 0 1 0) 0x04 2 1 ∷ write (slot 1 0 0) 0x04 2 1 ∷ [])
    ≡ bridge (slot 0 1 0) 1 0x10100 ((0x1c, 0x1010) ∷ (0x20, 0xfff0) ∷ []) ((0x1c, 0xf0f0) ∷ []) ∷ device (slot 1 0 0) 1 ((0x10, 0x1001) ∷ []) ((0x10, 0xffffff01) ∷ []) ∷ []
unfolding number_of_bits writable_bits clearing_bits written
after_the_writes_of_an_io_tree = refl

-- ---- a ROM before a smaller BAR

after_the_writes_of_a_rom :
    system_after
    (device (slot 0 1 0) 0 [] ((0x10, 0xfffff000) ∷ (0x30, 0xffff0000) ∷ []) ∷ [])
    (write (slot 0 1 0) 0x10 4 0xe0020000 ∷ write (slot 0 1 0) 0x30 4 0xe0010000 ∷ write (slot 0 1 0) 0x04 2 2 ∷ [])
    ≡ device (slot 0 1 0) 2 ((0x10, 0xe0020000) ∷ (0x30, 0xe0010000) ∷ []) ((0x10, 0xfffff000) ∷ (0x30, 0xffff0000) ∷ []) ∷ []
unfolding number_of_bits writable_bits clearing_bits written
after_the_writes_of_a_rom = refl

-- ---- two roots, placed as one bus

after_the_writes_of_two_roots :
    system_after
    (device (slot 0 1 0) 0 [] ((0x10, 0xfff00000) ∷ []) ∷ device (slot 0x40 1 0) 0 [] ((0x10, 0xfff00000) ∷ []) ∷ [])
    (write (slot 0 1 0) 0x10 4 0xe0000000 ∷ write (slot 0x40 1 0) 0x10 4 0xe0100000 ∷ write (slot 0 1 0) 0x04 2 2 ∷ write (slot 0x40 1 0) 0x04 2 2 ∷ [])
    ≡ device (slot 0 1 0) 2 ((0x10, 0xe0000000) ∷ []) ((0x10, 0xfff00000) ∷ []) ∷ device (slot 0x40 1 0) 2 ((0x10, 0xe0100000) ∷ []) ((0x10, 0xfff00000) ∷ []) ∷ []
unfolding number_of_bits writable_bits clearing_bits written
after_the_writes_of_two_roots = refl

-- ---- an I/O BAR behind a bridge without an I/O window

abbrev io_device : Function
io_device = device (slot 1 0 0) 0 ((0x10, 1) ∷ []) ((0x10, 0xffffff01) ∷ [])

io_bar_without_a_window : LacksWindow (bridge (slot 0 1 0) 0 0x10100 [] [] ∷ io_device ∷ []) (slot 1 0 0)
io_bar_without_a_window = (io_device, (1, lit< tt, refl), refl, refl, refl)

-- it lies on the root, not behind the bridge
abbrev io_device_on_the_root : Function
io_device_on_the_root = device (slot 0 2 0) 0 ((0x10, 1) ∷ []) ((0x10, 0xffffff01) ∷ [])

io_bar_beside_such_a_bridge : LacksWindow (bridge (slot 0 1 0) 0 0x10100 [] [] ∷ io_device_on_the_root ∷ []) (slot 0 2 0) → ⊥
io_bar_beside_such_a_bridge lacks = both_ways false refl lacks.4

-- ---- behind, open and lacking

a_bar_two_bridges_down_is_behind_both : map (has_behind deep pools MemoryWindow) deep ≡ true ∷ true ∷ true ∷ true ∷ false ∷ []
a_bar_two_bridges_down_is_behind_both = refl

bar_at_20_of_a_device_is_no_window : is_open (device (slot 0 1 0) 0 [] ((0x20, 0xfffff000) ∷ [])) MemoryWindow ≡ false
bar_at_20_of_a_device_is_no_window = refl

io_window_at_0_is_open : is_open (bridge (slot 0 1 0) 0 0x10100 [] ((0x1c, 0xf0f0) ∷ [])) IoWindow ≡ true
io_window_at_0_is_open = refl

io_window_is_there : LacksWindow (bridge (slot 0 1 0) 0 0x10100 [] ((0x1c, 0xf0f0) ∷ []) ∷ device (slot 1 0 0) 0 ((0x10, 1) ∷ []) ((0x10, 0xffffff01) ∷ []) ∷ []) (slot 1 0 0) → ⊥
io_window_is_there lacks = both_ways false refl lacks.4

each_of_small : (P : Function → Type 0) → P (bridge (slot 0 1 0) 0 0x10100 [] []) → P (device (slot 1 0 0) 0 [] ((0x10, 0xfffff000) ∷ [])) → (f : Function) → Contains small_behind f → P f
each_of_small P a b f (zero, less, is) = subst P is a
each_of_small P a b f (suc zero, less, is) = subst P is b
each_of_small P a b f (suc (suc k), less, is) = absurd (let no : ⊥ = omega (arith, less) in no)

memory_bar_needs_no_io_window : LacksWindow small_behind (slot 1 0 0) → ⊥
memory_bar_needs_no_io_window (f, listed, named, io, above) =
    each_of_small (λ f. IsTrue (list_any (is_io_part f) (bars_and_rom f)) → ⊥) (both_ways false refl) (both_ways false refl) f listed io

-- the outer of two bridges has no I/O window
abbrev outer_lacks : System
outer_lacks = bridge (slot 0 1 0) 0 0x20100 [] [] ∷ bridge (slot 1 0 0) 0 0x20201 [] ((0x1c, 0xf0f0) ∷ []) ∷ device (slot 2 0 0) 0 ((0x10, 1) ∷ []) ((0x10, 0xffffff01) ∷ []) ∷ []

every_io_window_above_counts : LacksWindow outer_lacks (slot 2 0 0)
every_io_window_above_counts = (device (slot 2 0 0) 0 ((0x10, 1) ∷ []) ((0x10, 0xffffff01) ∷ []), (2, lit< tt, refl), refl, refl, refl)

-- ---- one function of two

abbrev two_functions : System
two_functions = device (slot 0 1 0) 0 [] ((0x10, 0xfff00000) ∷ []) ∷ device (slot 0 1 1) 0 [] ((0x10, 0xfff00000) ∷ []) ∷ []

write_to_one_function_of_a_device : system_after two_functions (write (slot 0 1 1) 0x10 4 0xe0000000 ∷ []) ≡ device (slot 0 1 0) 0 [] ((0x10, 0xfff00000) ∷ []) ∷ device (slot 0 1 1) 0 ((0x10, 0xe0000000) ∷ []) ((0x10, 0xfff00000) ∷ []) ∷ []
unfolding number_of_bits writable_bits clearing_bits written
write_to_one_function_of_a_device = refl
