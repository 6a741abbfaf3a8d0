-- Where what moves gets its place: on a root, and in windows that are made or that stand.
use Rattle.std.proofs.Common.{◌≡◌, ℕ, [], ◌∷◌, refl}
use Rattle.pci_spec.specs.Slot.{Slot}
use Rattle.pci_spec.specs.Window.{IoWindow, MemoryWindow, PrefetchWindow}
use Rattle.pci_spec.specs.System.{Function}
use Rattle.pci_spec.proofs.Examples.Samples.{slot, device, bridge, write}
use Rattle.settle_spec.specs.Stands.{stands_within}
use Rattle.settle_spec.specs.Items.{window_within, holds_within}
use Rattle.settle_spec.specs.Keeping.Places.{placing_within}
use Rattle.settle_spec.specs.Keeping.Registers.{is_live_within}
use Rattle.settle_spec.specs.Writes.{Settled, NoRoom}
use Rattle.settle_spec.proofs.Examples.Settlings.{settle, all_roots, of_root, lists, request, with_io, with_memory, with_prefetch, plain, over}

-- ---- I/O

-- a BAR of 256 ports, and a bridge to bus 1 that has an I/O window
abbrev ports : Slot → ℕ → ℕ → Function
ports s command value = device s command ((0x10, value) ∷ []) ((0x10, 0xffffff01) ∷ [])

abbrev over_io : ℕ → ℕ → Function
over_io command window = bridge (slot 0 1 0) command 0x10100 ((0x1c, window) ∷ (0x20, 0xfff0) ∷ []) ((0x1c, 0xf0f0) ∷ [])

-- behind a bridge it is placed in a new I/O window of 4 KB,
io_behind : settle request (over_io 0 0x00f0 ∷ ports (slot 1 0 0) 0 1 ∷ [])
    ≡ Settled (write (slot 0 1 0) 0x1c 2 0x1010 ∷ write (slot 1 0 0) 0x10 4 0x1001 ∷ write (slot 0 1 0) 0x04 2 0x0001 ∷ write (slot 1 0 0) 0x04 2 0x0001 ∷ [])
unfolding stands_within window_within holds_within placing_within is_live_within
io_behind = refl

-- or in the one that stands, beside what stands there
io_in_standing_window : settle request (over_io 1 0x2020 ∷ ports (slot 1 0 0) 1 0x2101 ∷ ports (slot 1 1 0) 0 1 ∷ [])
    ≡ Settled (write (slot 1 1 0) 0x10 4 0x2001 ∷ write (slot 1 1 0) 0x04 2 0x0001 ∷ [])
unfolding stands_within window_within holds_within placing_within is_live_within
io_in_standing_window = refl

-- a window of two pages, where its BARs and another window take more than one
io_window_of_two_pages : settle request (over_io 0 0x00f0 ∷ device (slot 1 0 0) 0 [] ((0x10, 0xfffff001) ∷ (0x14, 0xffffff01) ∷ []) ∷ [])
    ≡ Settled (write (slot 0 1 0) 0x1c 2 0x2010 ∷ write (slot 1 0 0) 0x10 4 0x1000 ∷ write (slot 1 0 0) 0x14 4 0x2000 ∷ write (slot 0 1 0) 0x04 2 0x0001 ∷ write (slot 1 0 0) 0x04 2 0x0001 ∷ [])
unfolding stands_within window_within holds_within placing_within is_live_within
io_window_of_two_pages = refl

-- a window of wide I/O shows the upper halves
wide_io_window : settle request (bridge (slot 0 1 0) 0 0x10100 ((0x1c, 0x01f1) ∷ (0x20, 0xfff0) ∷ (0x30, 0x00020003) ∷ []) ((0x1c, 0xf1f1) ∷ (0x30, 0xffffffff) ∷ []) ∷ ports (slot 1 0 0) 0 1 ∷ [])
    ≡ Settled (write (slot 0 1 0) 0x30 4 0x0 ∷ write (slot 0 1 0) 0x1c 2 0x1111 ∷ write (slot 1 0 0) 0x10 4 0x1001 ∷ write (slot 0 1 0) 0x04 2 0x0001 ∷ write (slot 1 0 0) 0x04 2 0x0001 ∷ [])
unfolding stands_within window_within holds_within placing_within is_live_within
wide_io_window = refl

-- I/O that has no room is told, with the bridge whose window would be too large
io_without_room : settle (with_io (all_roots 0x1000 0x17ff ∷ [])) (over_io 0 0x00f0 ∷ ports (slot 1 0 0) 0 1 ∷ [])
    ≡ NoRoom IoWindow (slot 0 1 0) 0x1c 0x1000 0x1000
unfolding stands_within window_within holds_within placing_within is_live_within
io_without_room = refl

-- where I/O and memory have none, I/O is told
io_is_told_first : settle (record request { lists = record lists { io = all_roots 0x1000 0x10ff ∷ []; memory = [] } }) (plain (slot 0 1 0) 0 0 0xfff00000 ∷ ports (slot 0 2 0) 0 1 ∷ ports (slot 0 3 0) 0 1 ∷ [])
    ≡ NoRoom IoWindow (slot 0 3 0) 0x10 0x100 0x100
unfolding stands_within window_within holds_within placing_within is_live_within
io_is_told_first = refl

-- ---- memory on a root

-- a memory BAR of 64 bits gets a range of prefetchable memory where those of memory are full,
wide_memory : settle request (device (slot 0 1 0) 0 ((0x10, 4) ∷ []) ((0x10, 0xffc00004) ∷ (0x14, 0xffffffff) ∷ []) ∷ [])
    ≡ Settled (write (slot 0 1 0) 0x14 4 0x00000001 ∷ write (slot 0 1 0) 0x04 2 0x0002 ∷ [])
unfolding stands_within window_within holds_within placing_within is_live_within
wide_memory = refl

-- but one of memory where it has room there
wide_memory_with_room : settle request (device (slot 0 1 0) 0 ((0x10, 4) ∷ []) ((0x10, 0xfff00004) ∷ (0x14, 0xffffffff) ∷ []) ∷ [])
    ≡ Settled (write (slot 0 1 0) 0x10 4 0xe0000004 ∷ write (slot 0 1 0) 0x04 2 0x0002 ∷ [])
unfolding stands_within window_within holds_within placing_within is_live_within
wide_memory_with_room = refl

-- one of 32 bits gets none of them, not even below 4 GB
narrow_memory : settle (with_prefetch (all_roots 0xf0000000 0xf0ffffff ∷ [])) (plain (slot 0 1 0) 0 0 0xffc00000 ∷ [])
    ≡ NoRoom MemoryWindow (slot 0 1 0) 0x10 0x400000 0x400000
unfolding stands_within window_within holds_within placing_within is_live_within
narrow_memory = refl

-- nor does a ROM
rom_has_32_bits : settle request (device (slot 0 1 0) 2 ((0x30, 1) ∷ []) ((0x30, 0xffc00000) ∷ []) ∷ [])
    ≡ NoRoom MemoryWindow (slot 0 1 0) 0x30 0x400000 0x400000
unfolding stands_within window_within holds_within placing_within is_live_within
rom_has_32_bits = refl

-- a prefetchable BAR of 64 bits gets a range of prefetchable memory, even above 4 GB
wide_prefetchable : settle request (device (slot 0 1 0) 0 ((0x10, 0xc) ∷ []) ((0x10, 0xfff0000c) ∷ (0x14, 0xffffffff) ∷ []) ∷ [])
    ≡ Settled (write (slot 0 1 0) 0x14 4 0x00000001 ∷ write (slot 0 1 0) 0x04 2 0x0002 ∷ [])
unfolding stands_within window_within holds_within placing_within is_live_within
wide_prefetchable = refl

-- one of 32 bits counts as memory where those ranges go above 4 GB,
narrow_prefetchable : settle request (plain (slot 0 1 0) 0 8 0xfff00008 ∷ [])
    ≡ Settled (write (slot 0 1 0) 0x10 4 0xe0000008 ∷ write (slot 0 1 0) 0x04 2 0x0002 ∷ [])
unfolding stands_within window_within holds_within placing_within is_live_within
narrow_prefetchable = refl

-- and gets one of them where they don't
narrow_prefetchable_below : settle (with_prefetch (all_roots 0xf0000000 0xf0ffffff ∷ [])) (plain (slot 0 1 0) 0 8 0xfff00008 ∷ [])
    ≡ Settled (write (slot 0 1 0) 0x10 4 0xf0000008 ∷ write (slot 0 1 0) 0x04 2 0x0002 ∷ [])
unfolding stands_within window_within holds_within placing_within is_live_within
narrow_prefetchable_below = refl

-- without ranges of prefetchable memory it is memory
without_prefetchable_ranges : settle (with_prefetch []) (device (slot 0 1 0) 0 ((0x10, 0xc) ∷ []) ((0x10, 0xfff0000c) ∷ (0x14, 0xffffffff) ∷ []) ∷ [])
    ≡ Settled (write (slot 0 1 0) 0x10 4 0xe000000c ∷ write (slot 0 1 0) 0x04 2 0x0002 ∷ [])
unfolding stands_within window_within holds_within placing_within is_live_within
without_prefetchable_ranges = refl

-- prefetchable memory gets no range of memory where its own are full
full_prefetchable : settle (with_prefetch (all_roots 0xf0000000 0xf00fffff ∷ [])) (plain (slot 0 1 0) 0 8 0xfff00008 ∷ plain (slot 0 2 0) 0 8 0xfff00008 ∷ [])
    ≡ NoRoom PrefetchWindow (slot 0 2 0) 0x10 0x100000 0x100000
unfolding stands_within window_within holds_within placing_within is_live_within
full_prefetchable = refl

-- in turn: larger ones first, then lower slots, then lower registers
in_turn_by_size : settle request (device (slot 0 1 0) 0 [] ((0x10, 0xfffff000) ∷ (0x14, 0xffffe000) ∷ []) ∷ plain (slot 0 2 0) 0 0 0xfff00000 ∷ plain (slot 0 3 0) 0 0 0xffffe000 ∷ [])
    ≡ Settled (write (slot 0 1 0) 0x10 4 0xe0104000 ∷ write (slot 0 1 0) 0x14 4 0xe0100000 ∷ write (slot 0 2 0) 0x10 4 0xe0000000 ∷ write (slot 0 3 0) 0x10 4 0xe0102000 ∷ write (slot 0 1 0) 0x04 2 0x0002 ∷ write (slot 0 2 0) 0x04 2 0x0002 ∷ write (slot 0 3 0) 0x04 2 0x0002 ∷ [])
unfolding stands_within window_within holds_within placing_within is_live_within
in_turn_by_size = refl

-- of one alignment the larger one comes first: a window of 3 MB before a BAR of 1 MB
larger_of_one_alignment : settle (with_memory (all_roots 0xe0000000 0xe03fffff ∷ [])) (plain (slot 0 0 0) 0 0 0xfff00000 ∷ over 0 0xfff0 ∷ device (slot 1 0 0) 0 [] ((0x10, 0xfff00000) ∷ (0x14, 0xfff00000) ∷ (0x18, 0xfff00000) ∷ []) ∷ [])
    ≡ Settled (write (slot 0 0 0) 0x10 4 0xe0300000 ∷ write (slot 0 1 0) 0x20 4 0xe020e000 ∷ write (slot 1 0 0) 0x10 4 0xe0000000 ∷ write (slot 1 0 0) 0x14 4 0xe0100000 ∷ write (slot 1 0 0) 0x18 4 0xe0200000 ∷ write (slot 0 0 0) 0x04 2 0x0002 ∷ write (slot 0 1 0) 0x04 2 0x0002 ∷ write (slot 1 0 0) 0x04 2 0x0002 ∷ [])
unfolding stands_within window_within holds_within placing_within is_live_within
larger_of_one_alignment = refl

-- ---- windows

-- a bridge to buses 2 on behind one to bus 1, and windows of prefetchable memory with upper halves
abbrev outer : ℕ → ℕ → Function
outer command window = bridge (slot 0 1 0) command 0x20100 ((0x20, window) ∷ []) []

abbrev inner : ℕ → ℕ → Function
inner command window = bridge (slot 1 0 0) command 0x20201 ((0x20, window) ∷ []) []

abbrev outer_prefetch : Function
outer_prefetch = bridge (slot 0 1 0) 0 0x20100 ((0x20, 0xfff0) ∷ (0x24, 0x1fff1) ∷ []) ((0x24, 0xfff1fff1) ∷ (0x28, 0xffffffff) ∷ (0x2c, 0xffffffff) ∷ [])

abbrev prefetchable : Function
prefetchable = device (slot 2 0 0) 0 ((0x10, 0xc) ∷ []) ((0x10, 0xfff0000c) ∷ (0x14, 0xffffffff) ∷ [])

-- two levels down everything is made
two_levels : settle request (outer 0 0xfff0 ∷ inner 0 0xfff0 ∷ plain (slot 2 0 0) 0 0 0xffe00000 ∷ [])
    ≡ Settled (write (slot 0 1 0) 0x20 4 0xe010e000 ∷ write (slot 1 0 0) 0x20 4 0xe010e000 ∷ write (slot 2 0 0) 0x10 4 0xe0000000 ∷ write (slot 0 1 0) 0x04 2 0x0002 ∷ write (slot 1 0 0) 0x04 2 0x0002 ∷ write (slot 2 0 0) 0x04 2 0x0002 ∷ [])
unfolding stands_within window_within holds_within placing_within is_live_within
two_levels = refl

-- the inner bridge has no prefetchable window, so the one above it is of no use
inner_has_none : settle request (outer_prefetch ∷ inner 0 0xfff0 ∷ prefetchable ∷ [])
    ≡ Settled (write (slot 0 1 0) 0x20 4 0xe000e000 ∷ write (slot 1 0 0) 0x20 4 0xe000e000 ∷ write (slot 2 0 0) 0x10 4 0xe000000c ∷ write (slot 0 1 0) 0x04 2 0x0002 ∷ write (slot 1 0 0) 0x04 2 0x0002 ∷ write (slot 2 0 0) 0x04 2 0x0002 ∷ [])
unfolding stands_within window_within holds_within placing_within is_live_within
inner_has_none = refl

-- nor has the outer one: what lies in the inner one's goes to memory, and that window is closed
outer_has_none : settle request (outer 2 0xfff0 ∷ bridge (slot 1 0 0) 2 0x20201 ((0x20, 0xfff0) ∷ (0x24, 0x10001) ∷ (0x28, 1) ∷ (0x2c, 1) ∷ []) ((0x24, 0xfff1fff1) ∷ (0x28, 0xffffffff) ∷ (0x2c, 0xffffffff) ∷ []) ∷ device (slot 2 0 0) 2 ((0x10, 0xc) ∷ (0x14, 1) ∷ []) ((0x10, 0xfff0000c) ∷ (0x14, 0xffffffff) ∷ []) ∷ [])
    ≡ Settled (write (slot 2 0 0) 0x04 2 0x0000 ∷ write (slot 1 0 0) 0x24 4 0x1fff1 ∷ write (slot 0 1 0) 0x20 4 0xe000e000 ∷ write (slot 1 0 0) 0x20 4 0xe000e000 ∷ write (slot 1 0 0) 0x2c 4 0x0 ∷ write (slot 1 0 0) 0x28 4 0x0 ∷ write (slot 2 0 0) 0x10 4 0xe000000c ∷ write (slot 2 0 0) 0x14 4 0x0 ∷ write (slot 2 0 0) 0x04 2 0x0002 ∷ [])
unfolding stands_within window_within holds_within placing_within is_live_within
outer_has_none = refl

-- two roots: behind a bridge on the second one, a window in the range of its root
behind_the_second_root : settle (record request { roots = 0 ∷ 0x40 ∷ []; lists = record lists { memory = of_root 0 0xe0000000 0xe00fffff ∷ of_root 0x40 0xe0100000 0xe01fffff ∷ [] } }) (bridge (slot 0x40 1 0) 0 0x414140 ((0x20, 0xfff0) ∷ []) [] ∷ plain (slot 0x41 0 0) 0 0 0xfffff000 ∷ [])
    ≡ Settled (write (slot 0x40 1 0) 0x20 4 0xe010e010 ∷ write (slot 0x41 0 0) 0x10 4 0xe0100000 ∷ write (slot 0x40 1 0) 0x04 2 0x0002 ∷ write (slot 0x41 0 0) 0x04 2 0x0002 ∷ [])
unfolding stands_within window_within holds_within placing_within is_live_within
behind_the_second_root = refl

-- a memory BAR of 64 bits behind a bridge stays below 4 GB, as a memory window does
wide_memory_behind : settle request (over 0 0xfff0 ∷ device (slot 1 0 0) 0 ((0x10, 4) ∷ []) ((0x10, 0xffc00004) ∷ (0x14, 0xffffffff) ∷ []) ∷ [])
    ≡ NoRoom MemoryWindow (slot 0 1 0) 0x20 0x400000 0x400000
unfolding stands_within window_within holds_within placing_within is_live_within
wide_memory_behind = refl

-- ---- at the ends of lists

-- a range may be used up to the last address below 4 GB
up_to_the_last_address : settle (with_memory (all_roots 0xfff00000 0xffffffff ∷ [])) (plain (slot 0 1 0) 0 0 0xfff00000 ∷ [])
    ≡ Settled (write (slot 0 1 0) 0x10 4 0xfff00000 ∷ write (slot 0 1 0) 0x04 2 0x0002 ∷ [])
unfolding stands_within window_within holds_within placing_within is_live_within
up_to_the_last_address = refl

-- a prefetchable BAR of 32 bits gets no range that ends above 4 GB, wherever that begins
range_across_4_gb : settle (with_prefetch (all_roots 0xf0000000 0x1ffffffff ∷ [])) (plain (slot 0 1 0) 0 8 0xfff00008 ∷ [])
    ≡ Settled (write (slot 0 1 0) 0x10 4 0xe0000008 ∷ write (slot 0 1 0) 0x04 2 0x0002 ∷ [])
unfolding stands_within window_within holds_within placing_within is_live_within
range_across_4_gb = refl

-- prefetchable memory of 64 bits gets no range of memory either
full_wide_prefetchable : settle (with_prefetch (all_roots 0x100000000 0x1000fffff ∷ [])) (device (slot 0 1 0) 0 ((0x10, 0xc) ∷ []) ((0x10, 0xfff0000c) ∷ (0x14, 0xffffffff) ∷ []) ∷ device (slot 0 2 0) 0 ((0x10, 0xc) ∷ []) ((0x10, 0xfff0000c) ∷ (0x14, 0xffffffff) ∷ []) ∷ [])
    ≡ NoRoom PrefetchWindow (slot 0 2 0) 0x10 0x100000 0x100000
unfolding stands_within window_within holds_within placing_within is_live_within
full_wide_prefetchable = refl

-- of two lists with the same addresses, memory is placed before prefetchable memory
memory_comes_first : settle (with_prefetch (all_roots 0xe0000000 0xe02fffff ∷ [])) (plain (slot 0 1 0) 0 8 0xfff00008 ∷ plain (slot 0 2 0) 0 0 0xfff00000 ∷ [])
    ≡ Settled (write (slot 0 1 0) 0x10 4 0xe0100008 ∷ write (slot 0 2 0) 0x10 4 0xe0000000 ∷ write (slot 0 1 0) 0x04 2 0x0002 ∷ write (slot 0 2 0) 0x04 2 0x0002 ∷ [])
unfolding stands_within window_within holds_within placing_within is_live_within
memory_comes_first = refl

-- what stands in the prefetchable list is off limits to memory
memory_beside_prefetchable : settle (with_prefetch (all_roots 0xe0000000 0xe02fffff ∷ [])) (plain (slot 0 1 0) 2 0xe0000008 0xfff00008 ∷ plain (slot 0 2 0) 0 0 0xfff00000 ∷ [])
    ≡ Settled (write (slot 0 2 0) 0x10 4 0xe0100000 ∷ write (slot 0 2 0) 0x04 2 0x0002 ∷ [])
unfolding stands_within window_within holds_within placing_within is_live_within
memory_beside_prefetchable = refl

-- I/O takes no addresses of memory, nor memory ports
io_takes_no_memory : settle (with_memory (all_roots 0x1000 0xffff ∷ [])) (ports (slot 0 1 0) 1 0x1001 ∷ plain (slot 0 2 0) 0 0 0xfffff000 ∷ [])
    ≡ Settled (write (slot 0 2 0) 0x10 4 0x00001000 ∷ write (slot 0 2 0) 0x04 2 0x0002 ∷ [])
unfolding stands_within window_within holds_within placing_within is_live_within
io_takes_no_memory = refl

memory_takes_no_io : settle (with_memory (all_roots 0x1000 0xffff ∷ [])) (ports (slot 0 1 0) 0 1 ∷ plain (slot 0 2 0) 2 0x1000 0xfffff000 ∷ [])
    ≡ Settled (write (slot 0 1 0) 0x10 4 0x00001001 ∷ write (slot 0 1 0) 0x04 2 0x0001 ∷ [])
unfolding stands_within window_within holds_within placing_within is_live_within
memory_takes_no_io = refl

-- the second root has a range of prefetchable memory of its own, and wide memory gets that one
wide_memory_on_the_second_root : settle (record request { roots = 0 ∷ 0x40 ∷ []; lists = record lists { prefetch = of_root 0 0x100000000 0x1ffffffff ∷ of_root 0x40 0x200000000 0x2ffffffff ∷ [] } }) (device (slot 0x40 1 0) 0 ((0x10, 4) ∷ []) ((0x10, 0xffc00004) ∷ (0x14, 0xffffffff) ∷ []) ∷ [])
    ≡ Settled (write (slot 0x40 1 0) 0x14 4 0x00000002 ∷ write (slot 0x40 1 0) 0x04 2 0x0002 ∷ [])
unfolding stands_within window_within holds_within placing_within is_live_within
wide_memory_on_the_second_root = refl

-- ---- windows that are wide, or aren't

-- a memory window is never wide, also on a bridge whose prefetchable one is
wide_memory_behind_wide_bridge : settle request (bridge (slot 0 1 0) 0 0x10100 ((0x20, 0xfff0) ∷ (0x24, 0x1fff1) ∷ []) ((0x24, 0xfff1fff1) ∷ (0x28, 0xffffffff) ∷ (0x2c, 0xffffffff) ∷ []) ∷ device (slot 1 0 0) 0 ((0x10, 4) ∷ []) ((0x10, 0xffc00004) ∷ (0x14, 0xffffffff) ∷ []) ∷ [])
    ≡ NoRoom MemoryWindow (slot 0 1 0) 0x20 0x400000 0x400000
unfolding stands_within window_within holds_within placing_within is_live_within
wide_memory_behind_wide_bridge = refl

-- nor is a prefetchable one around a BAR of 32 bits, though another has 64: they stand in a window that is in no range
window_around_narrow : settle request (bridge (slot 0 1 0) 2 0x10100 ((0x20, 0xfff0) ∷ (0x24, 0xf001f001) ∷ []) ((0x24, 0xfff1fff1) ∷ (0x28, 0xffffffff) ∷ (0x2c, 0xffffffff) ∷ []) ∷ plain (slot 1 0 0) 2 0xf0000008 0xfffff008 ∷ device (slot 1 1 0) 2 ((0x10, 0xf001000c) ∷ []) ((0x10, 0xfffff00c) ∷ (0x14, 0xffffffff) ∷ []) ∷ [])
    ≡ NoRoom PrefetchWindow (slot 0 1 0) 0x24 0x100000 0x100000
unfolding stands_within window_within holds_within placing_within is_live_within
window_around_narrow = refl

-- nor one without upper halves around a BAR of 64 bits
window_without_upper_halves : settle request (bridge (slot 0 1 0) 2 0x10100 ((0x20, 0xfff0) ∷ (0x24, 0xf000f000) ∷ []) ((0x24, 0xfff0fff0) ∷ []) ∷ device (slot 1 0 0) 2 ((0x10, 0xf000000c) ∷ []) ((0x10, 0xfffff00c) ∷ (0x14, 0xffffffff) ∷ []) ∷ [])
    ≡ NoRoom PrefetchWindow (slot 0 1 0) 0x24 0x100000 0x100000
unfolding stands_within window_within holds_within placing_within is_live_within
window_without_upper_halves = refl

-- nor may such a window lie across 4 GB
window_across_4_gb : settle (with_prefetch (all_roots 0xffe00000 0x1ffffffff ∷ [])) (bridge (slot 0 1 0) 2 0x10100 ((0x20, 0xfff0) ∷ (0x24, 0xd020d000) ∷ []) ((0x24, 0xfff0fff0) ∷ []) ∷ device (slot 1 0 0) 2 ((0x10, 0xd0000008) ∷ (0x14, 0xd0100008) ∷ (0x18, 0xd0200008) ∷ []) ((0x10, 0xfff00008) ∷ (0x14, 0xfff00008) ∷ (0x18, 0xfff00008) ∷ []) ∷ [])
    ≡ NoRoom PrefetchWindow (slot 0 1 0) 0x24 0x300000 0x100000
unfolding stands_within window_within holds_within placing_within is_live_within
window_across_4_gb = refl

-- a window that is open, with nothing behind it, asks for no window above it
nothing_behind_two : settle request (outer 0 0xfff0 ∷ inner 0 0 ∷ [])
    ≡ Settled (write (slot 1 0 0) 0x20 4 0x0000fff0 ∷ [])
unfolding stands_within window_within holds_within placing_within is_live_within
nothing_behind_two = refl
