-- Windows that grow: what is written to settle small trees.
use Rattle.std.proofs.Common.{◌≡◌, ℕ, List, [], ◌∷◌, refl}
use Rattle.pci_spec.specs.System.{System, Function}
use Rattle.pci_spec.proofs.Examples.Samples.{slot, device, bridge, write}
use Rattle.settle_spec.specs.Lists.{RootRange, Request}
use Rattle.settle_spec.specs.Stands.{stands_within}
use Rattle.settle_spec.specs.Items.{window_within, holds_within}
use Rattle.settle_spec.specs.Reach.{reach_within}
use Rattle.settle_spec.specs.Growth.{there_beside, there_within}
use Rattle.settle_spec.specs.Keeping.Places.{placing_within}
use Rattle.settle_spec.specs.Keeping.Registers.{is_live_within}
use Rattle.settle_spec.specs.Writes.{Settled, Fixed}
use Rattle.settle_spec.specs.Growing.{settle_growing}
use Rattle.settle_spec.proofs.Examples.Settlings.{all_roots, lists, request, plain, over}

-- ---- one class

abbrev pub roomy : Request
roomy = record request { lists = record lists { memory = all_roots 0xe0000000 0xe0ffffff ∷ [] } }

abbrev pub with_memory : List RootRange → Request
with_memory list = record request { lists = record lists { memory = list } }

abbrev pub with_prefetch : List RootRange → Request
with_prefetch list = record roomy { lists = record lists { memory = all_roots 0xe0000000 0xe0ffffff ∷ []; prefetch = list } }

-- a disk that runs in a window of 1 MB, and a card that is plugged in beside it
abbrev pub disk : Function
disk = plain (slot 1 0 0) 2 0xe0000000 0xfffff000

abbrev pub card : ℕ → Function
card mask = plain (slot 1 1 0) 0 0 mask

abbrev pub one : System
one = over 2 0xe000e000 ∷ disk ∷ card 0xfff00000 ∷ []

-- a device behind that window on the bridge's bus
abbrev pub three : System
three = over 2 0xe000e000 ∷ plain (slot 0 2 0) 2 0xe0100000 0xfff00000 ∷ disk ∷ card 0xfff00000 ∷ []

-- the same two levels down
abbrev pub outer : ℕ → Function
outer window = bridge (slot 0 1 0) 2 0x20100 ((0x20, window) ∷ []) []

abbrev pub inner : Function
inner = bridge (slot 1 0 0) 2 0x20201 ((0x20, 0xe000e000) ∷ []) []

abbrev pub inner_disk : Function
inner_disk = plain (slot 2 0 0) 2 0xe0000000 0xfffff000

abbrev pub inner_card : Function
inner_card = plain (slot 2 1 0) 0 0 0xfff00000

-- prefetchable memory of 64 bits: a bridge's read backs, a card of 1 MB, and one that runs below 2_0000_0000h
abbrev pub upper_halves : List (ℕ × ℕ)
upper_halves = (0x24, 0xfff1fff1) ∷ (0x28, 0xffffffff) ∷ (0x2c, 0xffffffff) ∷ []

abbrev pub wide_card : Function
wide_card = device (slot 1 1 0) 0 ((0x10, 0xc) ∷ []) ((0x10, 0xfff0000c) ∷ (0x14, 0xffffffff) ∷ [])

abbrev pub high_over : Function
high_over = bridge (slot 0 1 0) 2 0x10100 ((0x20, 0xfff0) ∷ (0x24, 0xfff1fff1) ∷ (0x28, 1) ∷ (0x2c, 1) ∷ []) upper_halves

abbrev pub high_disk : Function
high_disk = device (slot 1 0 0) 2 ((0x10, 0xfff0000c) ∷ (0x14, 1) ∷ []) ((0x10, 0xfff0000c) ∷ (0x14, 0xffffffff) ∷ [])

-- six BARs of 256 ports
abbrev pub six_ports : ℕ → Function
six_ports number = device (slot 1 number 0) 0 ((0x10, 1) ∷ (0x14, 1) ∷ (0x18, 1) ∷ (0x1c, 1) ∷ (0x20, 1) ∷ (0x24, 1) ∷ []) ((0x10, 0xffffff01) ∷ (0x14, 0xffffff01) ∷ (0x18, 0xffffff01) ∷ (0x1c, 0xffffff01) ∷ (0x20, 0xffffff01) ∷ (0x24, 0xffffff01) ∷ [])

-- a card of 1 MB behind a window of 1 MB that a disk is in: the window grows at its end
at_the_end : settle_growing roomy one
    ≡ Settled (write (slot 0 1 0) 0x20 4 0xe010e000 ∷ write (slot 1 1 0) 0x10 4 0xe0100000 ∷ write (slot 1 1 0) 0x04 2 0x0002 ∷ [])
unfolding stands_within window_within holds_within reach_within there_beside there_within placing_within is_live_within
at_the_end = refl

-- one of 2 MB is aligned to 2 MB, and the window has 4 MB then
by_more_than_is_behind : settle_growing roomy (over 2 0xe000e000 ∷ disk ∷ card 0xffe00000 ∷ [])
    ≡ Settled (write (slot 0 1 0) 0x20 4 0xe030e000 ∷ write (slot 1 1 0) 0x10 4 0xe0200000 ∷ write (slot 1 1 0) 0x04 2 0x0002 ∷ [])
unfolding stands_within window_within holds_within reach_within there_beside there_within placing_within is_live_within
by_more_than_is_behind = refl

-- the next megabyte is taken, and the range begins where the window does: it moves
next_megabyte_is_taken : settle_growing roomy three
    ≡ Settled (write (slot 1 0 0) 0x04 2 0x0000 ∷ write (slot 0 1 0) 0x20 4 0x0000fff0 ∷ write (slot 0 1 0) 0x20 4 0xe030e020 ∷ write (slot 1 0 0) 0x10 4 0xe0300000 ∷ write (slot 1 1 0) 0x10 4 0xe0200000 ∷ write (slot 1 0 0) 0x04 2 0x0002 ∷ write (slot 1 1 0) 0x04 2 0x0002 ∷ [])
unfolding stands_within window_within holds_within reach_within there_beside there_within placing_within is_live_within
next_megabyte_is_taken = refl

-- where the range begins earlier it grows at its beginning
at_the_beginning : settle_growing (with_memory (all_roots 0xdff00000 0xe0ffffff ∷ [])) three
    ≡ Settled (write (slot 0 1 0) 0x20 4 0xe000dff0 ∷ write (slot 1 1 0) 0x10 4 0xdff00000 ∷ write (slot 1 1 0) 0x04 2 0x0002 ∷ [])
unfolding stands_within window_within holds_within reach_within there_beside there_within placing_within is_live_within
at_the_beginning = refl

-- a window grows with the one behind it
two_levels : settle_growing roomy (outer 0xe000e000 ∷ inner ∷ inner_disk ∷ inner_card ∷ [])
    ≡ Settled (write (slot 0 1 0) 0x20 4 0xe010e000 ∷ write (slot 1 0 0) 0x20 4 0xe010e000 ∷ write (slot 2 1 0) 0x10 4 0xe0100000 ∷ write (slot 2 1 0) 0x04 2 0x0002 ∷ [])
unfolding stands_within window_within holds_within reach_within there_beside there_within placing_within is_live_within
two_levels = refl

-- where the outer one can't grow neither does the inner one
outer_can_not_grow : settle_growing roomy (outer 0xe000e000 ∷ plain (slot 0 2 0) 2 0xe0100000 0xfff00000 ∷ inner ∷ inner_disk ∷ inner_card ∷ [])
    ≡ Settled (write (slot 2 0 0) 0x04 2 0x0000 ∷ write (slot 1 0 0) 0x20 4 0x0000fff0 ∷ write (slot 0 1 0) 0x20 4 0x0000fff0 ∷ write (slot 0 1 0) 0x20 4 0xe030e020 ∷ write (slot 1 0 0) 0x20 4 0xe030e020 ∷ write (slot 2 0 0) 0x10 4 0xe0300000 ∷ write (slot 2 1 0) 0x10 4 0xe0200000 ∷ write (slot 2 0 0) 0x04 2 0x0002 ∷ write (slot 2 1 0) 0x04 2 0x0002 ∷ [])
unfolding stands_within window_within holds_within reach_within there_beside there_within placing_within is_live_within
outer_can_not_grow = refl

-- where the outer one has room the inner one alone grows
outer_has_room : settle_growing roomy (outer 0xe010e000 ∷ inner ∷ inner_disk ∷ inner_card ∷ [])
    ≡ Settled (write (slot 1 0 0) 0x20 4 0xe010e000 ∷ write (slot 2 1 0) 0x10 4 0xe0100000 ∷ write (slot 2 1 0) 0x04 2 0x0002 ∷ [])
unfolding stands_within window_within holds_within reach_within there_beside there_within placing_within is_live_within
outer_has_room = refl

-- ---- other classes

-- a closed window is opened beside what runs
closed_window_is_opened : settle_growing roomy (bridge (slot 0 1 0) 2 0x10100 ((0x20, 0xe000e000) ∷ (0x24, 0x1fff1) ∷ []) upper_halves ∷ disk ∷ wide_card ∷ [])
    ≡ Settled (write (slot 0 1 0) 0x28 4 0x00000001 ∷ write (slot 0 1 0) 0x2c 4 0x00000001 ∷ write (slot 0 1 0) 0x24 4 0x00010001 ∷ write (slot 1 1 0) 0x14 4 0x00000001 ∷ write (slot 1 1 0) 0x04 2 0x0002 ∷ [])
unfolding stands_within window_within holds_within reach_within there_beside there_within placing_within is_live_within
closed_window_is_opened = refl

-- and so is one of I/O
io_window_is_opened : settle_growing roomy (bridge (slot 0 1 0) 2 0x10100 ((0x20, 0xe000e000) ∷ (0x1c, 0x00f0) ∷ []) ((0x1c, 0xf0f0) ∷ []) ∷ disk ∷ device (slot 1 1 0) 0 ((0x10, 1) ∷ []) ((0x10, 0xffffff01) ∷ []) ∷ [])
    ≡ Settled (write (slot 0 1 0) 0x1c 2 0x1010 ∷ write (slot 1 1 0) 0x10 4 0x00001001 ∷ write (slot 0 1 0) 0x04 2 0x0003 ∷ write (slot 1 1 0) 0x04 2 0x0001 ∷ [])
unfolding stands_within window_within holds_within reach_within there_beside there_within placing_within is_live_within
io_window_is_opened = refl

-- an I/O window grows by a page: 18 BARs of 256 ports where 15 have room
io_window_grows : settle_growing roomy (bridge (slot 0 1 0) 1 0x10100 ((0x20, 0xfff0) ∷ (0x1c, 0x1010) ∷ []) ((0x1c, 0xf0f0) ∷ []) ∷ device (slot 1 0 0) 1 ((0x10, 0x1001) ∷ []) ((0x10, 0xffffff01) ∷ []) ∷ six_ports 1 ∷ six_ports 2 ∷ six_ports 3 ∷ [])
    ≡ Settled (write (slot 0 1 0) 0x1c 2 0x2010 ∷ write (slot 1 1 0) 0x10 4 0x00001101 ∷ write (slot 1 1 0) 0x14 4 0x00001201 ∷ write (slot 1 1 0) 0x18 4 0x00001301 ∷ write (slot 1 1 0) 0x1c 4 0x00001401 ∷ write (slot 1 1 0) 0x20 4 0x00001501 ∷ write (slot 1 1 0) 0x24 4 0x00001601 ∷ write (slot 1 2 0) 0x10 4 0x00001701 ∷ write (slot 1 2 0) 0x14 4 0x00001801 ∷ write (slot 1 2 0) 0x18 4 0x00001901 ∷ write (slot 1 2 0) 0x1c 4 0x00001a01 ∷ write (slot 1 2 0) 0x20 4 0x00001b01 ∷ write (slot 1 2 0) 0x24 4 0x00001c01 ∷ write (slot 1 3 0) 0x10 4 0x00001d01 ∷ write (slot 1 3 0) 0x14 4 0x00001e01 ∷ write (slot 1 3 0) 0x18 4 0x00001f01 ∷ write (slot 1 3 0) 0x1c 4 0x00002001 ∷ write (slot 1 3 0) 0x20 4 0x00002101 ∷ write (slot 1 3 0) 0x24 4 0x00002201 ∷ write (slot 1 1 0) 0x04 2 0x0001 ∷ write (slot 1 2 0) 0x04 2 0x0001 ∷ write (slot 1 3 0) 0x04 2 0x0001 ∷ [])
unfolding stands_within window_within holds_within reach_within there_beside there_within placing_within is_live_within
io_window_grows = refl

-- above 4 GB the lower half of the limit doesn't fall, so the window ends at 2FFFFFFFFh
lower_half_does_not_fall : settle_growing (with_prefetch (all_roots 0x100000000 0x3ffffffff ∷ [])) (high_over ∷ high_disk ∷ wide_card ∷ [])
    ≡ Settled (write (slot 0 1 0) 0x2c 4 0x00000002 ∷ write (slot 1 1 0) 0x14 4 0x00000002 ∷ write (slot 1 1 0) 0x04 2 0x0002 ∷ [])
unfolding stands_within window_within holds_within reach_within there_beside there_within placing_within is_live_within
lower_half_does_not_fall = refl

-- what is in that way is off limits: the reach ends before the upper half, and the window grows at its beginning
reach_ends_at_an_upper_half : settle_growing (with_prefetch (all_roots 0x100000000 0x3ffffffff ∷ [])) (high_over ∷ device (slot 0 2 0) 2 ((0x10, 0x4000000c) ∷ (0x14, 2) ∷ []) ((0x10, 0xfff0000c) ∷ (0x14, 0xffffffff) ∷ []) ∷ high_disk ∷ wide_card ∷ [])
    ≡ Settled (write (slot 0 1 0) 0x24 4 0xfff1ffe1 ∷ write (slot 1 1 0) 0x10 4 0xffe0000c ∷ write (slot 1 1 0) 0x14 4 0x00000001 ∷ write (slot 1 1 0) 0x04 2 0x0002 ∷ [])
unfolding stands_within window_within holds_within reach_within there_beside there_within placing_within is_live_within
reach_ends_at_an_upper_half = refl

-- ---- beside each other

-- of two that would grow into one megabyte the lower one does
toward_each_other : settle_growing roomy (over 2 0xe000e000 ∷ bridge (slot 0 2 0) 2 0x20200 ((0x20, 0xe020e020) ∷ []) [] ∷ plain (slot 0 3 0) 2 0xe0300000 0xfff00000 ∷ plain (slot 1 0 0) 2 0xe0000000 0xfff00000 ∷ plain (slot 1 1 0) 0 0 0xfff00000 ∷ plain (slot 2 0 0) 2 0xe0200000 0xfff00000 ∷ plain (slot 2 1 0) 0 0 0xfff00000 ∷ [])
    ≡ Settled (write (slot 2 0 0) 0x04 2 0x0000 ∷ write (slot 0 2 0) 0x20 4 0x0000fff0 ∷ write (slot 0 1 0) 0x20 4 0xe010e000 ∷ write (slot 0 2 0) 0x20 4 0xe050e040 ∷ write (slot 1 1 0) 0x10 4 0xe0100000 ∷ write (slot 2 0 0) 0x10 4 0xe0400000 ∷ write (slot 2 1 0) 0x10 4 0xe0500000 ∷ write (slot 1 1 0) 0x04 2 0x0002 ∷ write (slot 2 0 0) 0x04 2 0x0002 ∷ write (slot 2 1 0) 0x04 2 0x0002 ∷ [])
unfolding stands_within window_within holds_within reach_within there_beside there_within placing_within is_live_within
toward_each_other = refl

-- what is behind a window that moves, and not in it, stays on
beside_a_window_that_moves : settle_growing roomy (bridge (slot 0 1 0) 2 0x10100 ((0x20, 0xe000e000) ∷ (0x24, 0x00010001) ∷ (0x28, 1) ∷ (0x2c, 1) ∷ []) upper_halves ∷ plain (slot 0 2 0) 2 0xe0100000 0xfff00000 ∷ disk ∷ card 0xfff00000 ∷ device (slot 1 2 0) 2 ((0x10, 0xc) ∷ (0x14, 1) ∷ []) ((0x10, 0xfff0000c) ∷ (0x14, 0xffffffff) ∷ []) ∷ [])
    ≡ Settled (write (slot 1 0 0) 0x04 2 0x0000 ∷ write (slot 0 1 0) 0x20 4 0x0000fff0 ∷ write (slot 0 1 0) 0x20 4 0xe030e020 ∷ write (slot 1 0 0) 0x10 4 0xe0300000 ∷ write (slot 1 1 0) 0x10 4 0xe0200000 ∷ write (slot 1 0 0) 0x04 2 0x0002 ∷ write (slot 1 1 0) 0x04 2 0x0002 ∷ [])
unfolding stands_within window_within holds_within reach_within there_beside there_within placing_within is_live_within
beside_a_window_that_moves = refl

-- and one space of a function is off alone
one_space_of_a_function : settle_growing roomy (bridge (slot 0 1 0) 3 0x10100 ((0x20, 0xe000e000) ∷ (0x1c, 0x1010) ∷ []) ((0x1c, 0xf0f0) ∷ []) ∷ plain (slot 0 2 0) 2 0xe0100000 0xfff00000 ∷ device (slot 1 0 0) 3 ((0x10, 0xe0000000) ∷ (0x14, 0x1001) ∷ []) ((0x10, 0xfffff000) ∷ (0x14, 0xffffff01) ∷ []) ∷ card 0xfff00000 ∷ [])
    ≡ Settled (write (slot 1 0 0) 0x04 2 0x0001 ∷ write (slot 0 1 0) 0x20 4 0x0000fff0 ∷ write (slot 0 1 0) 0x20 4 0xe030e020 ∷ write (slot 1 0 0) 0x10 4 0xe0300000 ∷ write (slot 1 1 0) 0x10 4 0xe0200000 ∷ write (slot 1 0 0) 0x04 2 0x0003 ∷ write (slot 1 1 0) 0x04 2 0x0002 ∷ [])
unfolding stands_within window_within holds_within reach_within there_beside there_within placing_within is_live_within
one_space_of_a_function = refl

-- ---- what is fixed

-- what is fixed stays in a window that grows
fixed_in_a_window_that_grows : settle_growing (record roomy { fixed = slot 1 0 0 ∷ [] }) one
    ≡ Settled (write (slot 0 1 0) 0x20 4 0xe010e000 ∷ write (slot 1 1 0) 0x10 4 0xe0100000 ∷ write (slot 1 1 0) 0x04 2 0x0002 ∷ [])
unfolding stands_within window_within holds_within reach_within there_beside there_within placing_within is_live_within
fixed_in_a_window_that_grows = refl

-- the window of a fixed bridge doesn't grow
fixed_bridge_does_not_grow : settle_growing (record roomy { fixed = slot 0 1 0 ∷ [] }) one
    ≡ Fixed (slot 0 1 0) 0x20
unfolding stands_within window_within holds_within reach_within there_beside there_within placing_within is_live_within
fixed_bridge_does_not_grow = refl

-- ---- what doesn't stand

-- a window that firmware left open at 0 is closed, its bridge stays on
open_at_0_is_closed : settle_growing roomy (bridge (slot 0 1 0) 2 0x10100 ((0x20, 0xfff0) ∷ (0x24, 0x10001) ∷ []) upper_halves ∷ plain (slot 0 2 0) 2 0 0xfffff000 ∷ [])
    ≡ Settled (write (slot 0 2 0) 0x04 2 0x0000 ∷ write (slot 0 1 0) 0x24 4 0x0001fff1 ∷ write (slot 0 2 0) 0x10 4 0xe0000000 ∷ write (slot 0 2 0) 0x04 2 0x0002 ∷ [])
unfolding stands_within window_within holds_within reach_within there_beside there_within placing_within is_live_within
open_at_0_is_closed = refl

-- ---- halves of I/O

-- an I/O window from F000h to FFFFh grows over 64 KB: its limit keeps its lower half, so it ends at 1FFFFh
io_above_ffff : settle_growing (record roomy { lists = record lists { io = all_roots 0xf000 0x2ffff ∷ [] } }) (bridge (slot 0 1 0) 1 0x10100 ((0x1c, 0xf1f1) ∷ (0x20, 0xfff0) ∷ []) ((0x1c, 0xf1f1) ∷ (0x30, 0xffffffff) ∷ []) ∷ device (slot 1 0 0) 1 ((0x10, 0xf001) ∷ []) ((0x10, 0xffffff01) ∷ []) ∷ six_ports 1 ∷ six_ports 2 ∷ six_ports 3 ∷ [])
    ≡ Settled (write (slot 0 1 0) 0x30 4 0x00010000 ∷ write (slot 1 1 0) 0x10 4 0x0000f101 ∷ write (slot 1 1 0) 0x14 4 0x0000f201 ∷ write (slot 1 1 0) 0x18 4 0x0000f301 ∷ write (slot 1 1 0) 0x1c 4 0x0000f401 ∷ write (slot 1 1 0) 0x20 4 0x0000f501 ∷ write (slot 1 1 0) 0x24 4 0x0000f601 ∷ write (slot 1 2 0) 0x10 4 0x0000f701 ∷ write (slot 1 2 0) 0x14 4 0x0000f801 ∷ write (slot 1 2 0) 0x18 4 0x0000f901 ∷ write (slot 1 2 0) 0x1c 4 0x0000fa01 ∷ write (slot 1 2 0) 0x20 4 0x0000fb01 ∷ write (slot 1 2 0) 0x24 4 0x0000fc01 ∷ write (slot 1 3 0) 0x10 4 0x0000fd01 ∷ write (slot 1 3 0) 0x14 4 0x0000fe01 ∷ write (slot 1 3 0) 0x18 4 0x0000ff01 ∷ write (slot 1 3 0) 0x1c 4 0x00010001 ∷ write (slot 1 3 0) 0x20 4 0x00010101 ∷ write (slot 1 3 0) 0x24 4 0x00010201 ∷ write (slot 1 1 0) 0x04 2 0x0001 ∷ write (slot 1 2 0) 0x04 2 0x0001 ∷ write (slot 1 3 0) 0x04 2 0x0001 ∷ [])
unfolding stands_within window_within holds_within reach_within there_beside there_within placing_within is_live_within
io_above_ffff = refl

-- ---- windows that hold as they stand

-- an inner window would grow by a megabyte and leave no 2 MB that are aligned in the outer one, which can't grow: that one holds
-- without growth, so behind it all is as without growth
holds_as_it_stands : settle_growing (with_memory (all_roots 0xe0000000 0xe07fffff ∷ [])) (outer 0xe030e000 ∷ plain (slot 0 2 0) 2 0xe0400000 0xffc00000 ∷ bridge (slot 1 0 0) 2 0x20201 ((0x20, 0xe010e010) ∷ []) [] ∷ card 0xffe00000 ∷ plain (slot 2 0 0) 2 0xe0100000 0xfff00000 ∷ inner_card ∷ [])
    ≡ Settled (write (slot 2 0 0) 0x04 2 0x0000 ∷ write (slot 1 0 0) 0x20 4 0x0000fff0 ∷ write (slot 1 0 0) 0x20 4 0xe030e020 ∷ write (slot 1 1 0) 0x10 4 0xe0000000 ∷ write (slot 2 0 0) 0x10 4 0xe0200000 ∷ write (slot 2 1 0) 0x10 4 0xe0300000 ∷ write (slot 1 1 0) 0x04 2 0x0002 ∷ write (slot 2 0 0) 0x04 2 0x0002 ∷ write (slot 2 1 0) 0x04 2 0x0002 ∷ [])
unfolding stands_within window_within holds_within reach_within there_beside there_within placing_within is_live_within
holds_as_it_stands = refl
