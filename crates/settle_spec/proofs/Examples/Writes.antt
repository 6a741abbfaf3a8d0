-- What is shut, what is opened, and what is told where nothing is written.
use Rattle.std.proofs.Common.{◌≡◌, ℕ, [], ◌∷◌, refl}
use Rattle.pci_spec.specs.Window.{MemoryWindow}
use Rattle.pci_spec.specs.System.{System}
use Rattle.pci_spec.proofs.Examples.Samples.{slot, device, bridge, write}
use Rattle.settle_spec.specs.Stands.{stands_within}
use Rattle.settle_spec.specs.Items.{window_within, holds_within}
use Rattle.settle_spec.specs.Keeping.Places.{placing_within}
use Rattle.settle_spec.specs.Keeping.Registers.{is_live_within}
use Rattle.settle_spec.specs.Writes.{Settled, NoRoom, Fixed}
use Rattle.settle_spec.proofs.Examples.Settlings.{settle, all_roots, lists, request, with_io, plain, over}

-- ---- what is fixed

-- a fixed part that doesn't stand is told before want of room,
fixed_before_want_of_room : settle (record request { fixed = slot 0 1 0 ∷ [] }) (plain (slot 0 1 0) 0 0 0xfff00000 ∷ plain (slot 0 2 0) 0 0 0xffc00000 ∷ [])
    ≡ Fixed (slot 0 1 0) 0x10
unfolding stands_within window_within holds_within placing_within is_live_within
fixed_before_want_of_room = refl

-- and so is one whose window goes
fixed_behind_before_want_of_room : settle (record request { fixed = slot 1 0 0 ∷ [] }) (over 2 0xe000e000 ∷ plain (slot 0 2 0) 2 0xe0100000 0xfff00000 ∷ plain (slot 1 0 0) 2 0xe0000000 0xfffff000 ∷ plain (slot 1 1 0) 0 0 0xfff00000 ∷ [])
    ≡ Fixed (slot 1 0 0) 0x10
unfolding stands_within window_within holds_within placing_within is_live_within
fixed_behind_before_want_of_room = refl

-- one that doesn't stand is told before one that stands and can't stay
fixed_that_do_not_stand_first : settle (record request { fixed = slot 1 0 0 ∷ slot 1 1 0 ∷ [] }) (over 2 0xe000e000 ∷ plain (slot 1 0 0) 2 0xe0000000 0xfffff000 ∷ plain (slot 1 1 0) 0 0 0xfff00000 ∷ [])
    ≡ Fixed (slot 1 1 0) 0x10
unfolding stands_within window_within holds_within placing_within is_live_within
fixed_that_do_not_stand_first = refl

-- nothing stands in a window that doesn't
window_that_does_not_stand : settle (record request { fixed = slot 1 0 0 ∷ slot 2 0 0 ∷ [] }) (over 2 0xe000e000 ∷ bridge (slot 0 2 0) 2 0x20200 ((0x20, 0xd000d000) ∷ []) [] ∷ plain (slot 1 0 0) 2 0xe0000000 0xfffff000 ∷ plain (slot 1 1 0) 0 0 0xfff00000 ∷ plain (slot 2 0 0) 2 0xd0000000 0xfffff000 ∷ [])
    ≡ Fixed (slot 2 0 0) 0x10
unfolding stands_within window_within holds_within placing_within is_live_within
window_that_does_not_stand = refl

-- a fixed bridge that is off would have to be opened,
fixed_bridge_is_off : settle (record request { fixed = slot 0 1 0 ∷ [] }) (over 0 0xe000e000 ∷ plain (slot 1 0 0) 2 0xe0000000 0xfffff000 ∷ [])
    ≡ Fixed (slot 0 1 0) 0x04
unfolding stands_within window_within holds_within placing_within is_live_within
fixed_bridge_is_off = refl

-- which is told after want of room
want_of_room_before_fixed_write : settle (record request { fixed = slot 0 1 0 ∷ [] }) (over 0 0xe000e000 ∷ plain (slot 0 2 0) 0 0 0xffc00000 ∷ plain (slot 1 0 0) 2 0xe0000000 0xfffff000 ∷ [])
    ≡ NoRoom MemoryWindow (slot 0 2 0) 0x10 0x400000 0x400000
unfolding stands_within window_within holds_within placing_within is_live_within
want_of_room_before_fixed_write = refl

-- a slot that is fixed and has no function does no harm
fixed_that_is_not_there : settle (record request { fixed = slot 0 3 0 ∷ [] }) (plain (slot 0 1 0) 0 0 0xfff00000 ∷ [])
    ≡ Settled (write (slot 0 1 0) 0x10 4 0xe0000000 ∷ write (slot 0 1 0) 0x04 2 0x0002 ∷ [])
unfolding stands_within window_within holds_within placing_within is_live_within
fixed_that_is_not_there = refl

-- ---- a bridge that is off

-- two levels up: what is behind is shut while it is off, the bridge between isn't
abbrev below_two : ℕ → ℕ → ℕ → System
below_two outer inner last = bridge (slot 0 1 0) outer 0x20100 ((0x20, 0xe000e000) ∷ []) [] ∷ bridge (slot 1 0 0) inner 0x20201 ((0x20, 0xe000e000) ∷ []) [] ∷ plain (slot 2 0 0) last 0xe0000000 0xfffff000 ∷ []

outer_is_off : settle request (below_two 0 2 2)
    ≡ Settled (write (slot 2 0 0) 0x04 2 0x0000 ∷ write (slot 0 1 0) 0x04 2 0x0002 ∷ write (slot 2 0 0) 0x04 2 0x0002 ∷ [])
unfolding stands_within window_within holds_within placing_within is_live_within
outer_is_off = refl

both_are_off : settle request (below_two 0 0 2)
    ≡ Settled (write (slot 2 0 0) 0x04 2 0x0000 ∷ write (slot 0 1 0) 0x04 2 0x0002 ∷ write (slot 1 0 0) 0x04 2 0x0002 ∷ write (slot 2 0 0) 0x04 2 0x0002 ∷ [])
unfolding stands_within window_within holds_within placing_within is_live_within
both_are_off = refl

-- where nothing is live behind them, bridges that are off stay so
all_are_off : settle request (below_two 0 0 0) ≡ Settled []
unfolding stands_within window_within holds_within placing_within is_live_within
all_are_off = refl

-- bit 2 of Command, bus master, stays as it is in what is shut and opened
bus_master_stays : settle request (below_two 4 2 6)
    ≡ Settled (write (slot 2 0 0) 0x04 2 0x0004 ∷ write (slot 0 1 0) 0x04 2 0x0006 ∷ write (slot 2 0 0) 0x04 2 0x0006 ∷ [])
unfolding stands_within window_within holds_within placing_within is_live_within
bus_master_stays = refl

-- what enables a space in which it has nothing is not shut
nothing_in_the_space : settle request (over 0 0xfff0 ∷ device (slot 1 0 0) 3 [] [] ∷ [])
    ≡ Settled []
unfolding stands_within window_within holds_within placing_within is_live_within
nothing_in_the_space = refl

-- nor does it open that space in the bridge above
no_ports_behind : settle request (over 2 0xe000e000 ∷ plain (slot 1 0 0) 3 0xe0000000 0xfffff000 ∷ [])
    ≡ Settled []
unfolding stands_within window_within holds_within placing_within is_live_within
no_ports_behind = refl

-- an I/O BAR is shut while I/O is off in the bridge above, where memory is on in both
io_is_off_above : settle request (bridge (slot 0 1 0) 2 0x10100 ((0x1c, 0x2020) ∷ (0x20, 0xfff0) ∷ []) ((0x1c, 0xf0f0) ∷ []) ∷ device (slot 1 0 0) 1 ((0x10, 0x2001) ∷ []) ((0x10, 0xffffff01) ∷ []) ∷ [])
    ≡ Settled (write (slot 1 0 0) 0x04 2 0x0000 ∷ write (slot 0 1 0) 0x04 2 0x0003 ∷ write (slot 1 0 0) 0x04 2 0x0001 ∷ [])
unfolding stands_within window_within holds_within placing_within is_live_within
io_is_off_above = refl

-- ---- what moves

-- a BAR whose register stays moves where the window above it changes: it is off while that window is replaced
moves_with_the_window : settle request (over 2 0xe000e000 ∷ device (slot 1 0 0) 2 ((0x10, 0xe0000000) ∷ (0x14, 0xe0100000) ∷ []) ((0x10, 0xfff00000) ∷ (0x14, 0xfff00000) ∷ []) ∷ [])
    ≡ Settled (write (slot 1 0 0) 0x04 2 0x0000 ∷ write (slot 0 1 0) 0x20 4 0x0000fff0 ∷ write (slot 0 1 0) 0x20 4 0xe010e000 ∷ write (slot 1 0 0) 0x04 2 0x0002 ∷ [])
unfolding stands_within window_within holds_within placing_within is_live_within
moves_with_the_window = refl

-- ---- I/O that is left

-- a function whose I/O BAR is left keeps memory on while I/O is switched off
left_beside_memory : settle (with_io []) (device (slot 0 1 0) 3 ((0x10, 0x1001) ∷ (0x14, 0xe0000000) ∷ []) ((0x10, 0xffffff01) ∷ (0x14, 0xfffff000) ∷ []) ∷ [])
    ≡ Settled (write (slot 0 1 0) 0x04 2 0x0002 ∷ [])
unfolding stands_within window_within holds_within placing_within is_live_within
left_beside_memory = refl

-- the outer of two bridges has no I/O window
left_two_levels_down : settle request (bridge (slot 0 1 0) 1 0x20100 ((0x20, 0xfff0) ∷ []) [] ∷ bridge (slot 1 0 0) 1 0x20201 ((0x1c, 0x2020) ∷ (0x20, 0xfff0) ∷ []) ((0x1c, 0xf0f0) ∷ []) ∷ device (slot 2 0 0) 1 ((0x10, 0x2001) ∷ []) ((0x10, 0xffffff01) ∷ []) ∷ [])
    ≡ Settled (write (slot 2 0 0) 0x04 2 0x0000 ∷ write (slot 1 0 0) 0x1c 2 0x00f0 ∷ [])
unfolding stands_within window_within holds_within placing_within is_live_within
left_two_levels_down = refl

-- ---- registers

-- a BAR of 32 bits has one register: the next one stays as it is
next_register_stays : settle request (device (slot 0 1 0) 2 ((0x10, 0xd0000000) ∷ (0x14, 0xe0100000) ∷ []) ((0x10, 0xfff00000) ∷ (0x14, 0xfff00000) ∷ []) ∷ [])
    ≡ Settled (write (slot 0 1 0) 0x04 2 0x0000 ∷ write (slot 0 1 0) 0x10 4 0xe0000000 ∷ write (slot 0 1 0) 0x04 2 0x0002 ∷ [])
unfolding stands_within window_within holds_within placing_within is_live_within
next_register_stays = refl

-- both halves of a BAR of 64 bits are written
both_halves : settle request (device (slot 0 1 0) 0 ((0x10, 0xd000000c) ∷ (0x14, 7) ∷ []) ((0x10, 0xfff0000c) ∷ (0x14, 0xffffffff) ∷ []) ∷ [])
    ≡ Settled (write (slot 0 1 0) 0x10 4 0x0000000c ∷ write (slot 0 1 0) 0x14 4 0x00000001 ∷ write (slot 0 1 0) 0x04 2 0x0002 ∷ [])
unfolding stands_within window_within holds_within placing_within is_live_within
both_halves = refl

-- a ROM that moves stays on
rom_moves : settle request (device (slot 0 1 0) 2 ((0x30, 0xd0000001) ∷ []) ((0x30, 0xffff0000) ∷ []) ∷ [])
    ≡ Settled (write (slot 0 1 0) 0x04 2 0x0000 ∷ write (slot 0 1 0) 0x30 4 0xe0000001 ∷ write (slot 0 1 0) 0x04 2 0x0002 ∷ [])
unfolding stands_within window_within holds_within placing_within is_live_within
rom_moves = refl

-- a prefetchable window of two pages above 4 GB
prefetchable_of_two_pages : settle (record request { lists = record lists { prefetch = all_roots 0x1ffe00000 0x2ffffffff ∷ [] } }) (bridge (slot 0 1 0) 0 0x10100 ((0x20, 0xfff0) ∷ (0x24, 0x1fff1) ∷ []) ((0x24, 0xfff1fff1) ∷ (0x28, 0xffffffff) ∷ (0x2c, 0xffffffff) ∷ []) ∷ device (slot 1 0 0) 0 ((0x10, 0xc) ∷ []) ((0x10, 0xffe0000c) ∷ (0x14, 0xffffffff) ∷ []) ∷ [])
    ≡ Settled (write (slot 0 1 0) 0x28 4 0x1 ∷ write (slot 0 1 0) 0x2c 4 0x1 ∷ write (slot 0 1 0) 0x24 4 0xfff1ffe1 ∷ write (slot 1 0 0) 0x10 4 0xffe0000c ∷ write (slot 1 0 0) 0x14 4 0x1 ∷ write (slot 0 1 0) 0x04 2 0x0002 ∷ write (slot 1 0 0) 0x04 2 0x0002 ∷ [])
unfolding stands_within window_within holds_within placing_within is_live_within
prefetchable_of_two_pages = refl

-- a ROM of a bridge stands in another register, and moves alike
rom_of_a_bridge_moves : settle request (bridge (slot 0 1 0) 2 0x10100 ((0x20, 0xfff0) ∷ (0x38, 0xd0000001) ∷ []) ((0x38, 0xffff0000) ∷ []) ∷ [])
    ≡ Settled (write (slot 0 1 0) 0x04 2 0x0000 ∷ write (slot 0 1 0) 0x38 4 0xe0000001 ∷ write (slot 0 1 0) 0x04 2 0x0002 ∷ [])
unfolding stands_within window_within holds_within placing_within is_live_within
rom_of_a_bridge_moves = refl

-- a closed window stays as it is, however it is closed
closed_otherwise : settle request (over 2 0x10002000 ∷ [])
    ≡ Settled []
unfolding stands_within window_within holds_within placing_within is_live_within
closed_otherwise = refl

-- ---- spaces

-- what gets a place in one space is opened there, and in the other it stays off
io_alone_is_opened : settle request (device (slot 0 1 0) 0 ((0x10, 1) ∷ (0x14, 0xe0000000) ∷ []) ((0x10, 0xffffff01) ∷ (0x14, 0xfffff000) ∷ []) ∷ [])
    ≡ Settled (write (slot 0 1 0) 0x10 4 0x00001001 ∷ write (slot 0 1 0) 0x04 2 0x0001 ∷ [])
unfolding stands_within window_within holds_within placing_within is_live_within
io_alone_is_opened = refl

-- what is off in a space is not shut for a bridge that is off there
off_in_that_space : settle request (bridge (slot 0 1 0) 1 0x10100 ((0x1c, 0x2020) ∷ (0x20, 0xe000e000) ∷ []) ((0x1c, 0xf0f0) ∷ []) ∷ device (slot 1 0 0) 1 ((0x10, 0x2001) ∷ (0x14, 0xe0000000) ∷ []) ((0x10, 0xffffff01) ∷ (0x14, 0xfffff000) ∷ []) ∷ [])
    ≡ Settled []
unfolding stands_within window_within holds_within placing_within is_live_within
off_in_that_space = refl

-- an I/O BAR that is left is switched off before registers are written
left_is_switched_off_first : settle (with_io []) (plain (slot 0 1 0) 0 0 0xfff00000 ∷ device (slot 0 2 0) 1 ((0x10, 0x1001) ∷ []) ((0x10, 0xffffff01) ∷ []) ∷ [])
    ≡ Settled (write (slot 0 2 0) 0x04 2 0x0000 ∷ write (slot 0 1 0) 0x10 4 0xe0000000 ∷ write (slot 0 1 0) 0x04 2 0x0002 ∷ [])
unfolding stands_within window_within holds_within placing_within is_live_within
left_is_switched_off_first = refl

-- a fixed bridge that is off and whose window would be opened: its first write is told
fixed_bridge_would_open_a_window : settle (record request { fixed = slot 0 1 0 ∷ [] }) (over 0 0xfff0 ∷ plain (slot 1 0 0) 0 0 0xfffff000 ∷ [])
    ≡ Fixed (slot 0 1 0) 0x20
unfolding stands_within window_within holds_within placing_within is_live_within
fixed_bridge_would_open_a_window = refl

-- two functions in one window that moves are shut from the highest slot down, and opened from the lowest up
shut_from_above : settle request (over 2 0xd000d000 ∷ plain (slot 1 0 0) 6 0xd0000000 0xfffff000 ∷ plain (slot 1 1 0) 2 0xd0001000 0xfffff000 ∷ [])
    ≡ Settled (write (slot 1 1 0) 0x04 2 0x0000 ∷ write (slot 1 0 0) 0x04 2 0x0004 ∷ write (slot 0 1 0) 0x20 4 0xfff0 ∷ write (slot 0 1 0) 0x20 4 0xe000e000 ∷ write (slot 1 0 0) 0x10 4 0xe0000000 ∷ write (slot 1 1 0) 0x10 4 0xe0001000 ∷ write (slot 1 0 0) 0x04 2 0x0006 ∷ write (slot 1 1 0) 0x04 2 0x0002 ∷ [])
unfolding stands_within window_within holds_within placing_within is_live_within
shut_from_above = refl

-- what is behind a bridge, and not in the window that moves, stays on
on_behind_another_window : settle request (bridge (slot 0 1 0) 3 0x10100 ((0x1c, 0x2020) ∷ (0x20, 0xd000d000) ∷ []) ((0x1c, 0xf0f0) ∷ []) ∷ plain (slot 1 0 0) 2 0xd0000000 0xfffff000 ∷ device (slot 1 1 0) 1 ((0x10, 0x2001) ∷ []) ((0x10, 0xffffff01) ∷ []) ∷ [])
    ≡ Settled (write (slot 1 0 0) 0x04 2 0x0000 ∷ write (slot 0 1 0) 0x20 4 0xfff0 ∷ write (slot 0 1 0) 0x20 4 0xe000e000 ∷ write (slot 1 0 0) 0x10 4 0xe0000000 ∷ write (slot 1 0 0) 0x04 2 0x0002 ∷ [])
unfolding stands_within window_within holds_within placing_within is_live_within
on_behind_another_window = refl

-- a bridge two levels up whose ROM moves shuts what is behind, also what keeps its place
shut_two_levels_down : settle request (bridge (slot 0 1 0) 2 0x20100 ((0x20, 0xe000e000) ∷ (0x38, 0xd0000001) ∷ []) ((0x38, 0xffff0000) ∷ []) ∷ bridge (slot 1 0 0) 2 0x20201 ((0x20, 0xe000e000) ∷ []) [] ∷ plain (slot 2 0 0) 2 0xe0000000 0xfffff000 ∷ [])
    ≡ Settled (write (slot 2 0 0) 0x04 2 0x0000 ∷ write (slot 1 0 0) 0x04 2 0x0000 ∷ write (slot 0 1 0) 0x04 2 0x0000 ∷ write (slot 0 1 0) 0x38 4 0xe0100001 ∷ write (slot 0 1 0) 0x04 2 0x0002 ∷ write (slot 1 0 0) 0x04 2 0x0002 ∷ write (slot 2 0 0) 0x04 2 0x0002 ∷ [])
unfolding stands_within window_within holds_within placing_within is_live_within
shut_two_levels_down = refl

-- a closed window of a fixed bridge needs no place
closed_window_of_a_fixed_bridge : settle (record request { fixed = slot 0 1 0 ∷ [] }) (over 2 0x10002000 ∷ [])
    ≡ Settled []
unfolding stands_within window_within holds_within placing_within is_live_within
closed_window_of_a_fixed_bridge = refl

-- the upper half of a BAR of 64 bits reads back ones, bit 0 too, and is no I/O BAR that is left
upper_half_is_no_io : settle (with_io []) (device (slot 0 1 0) 3 ((0x10, 0xe0000004) ∷ []) ((0x10, 0xfff00004) ∷ (0x14, 0xffffffff) ∷ []) ∷ [])
    ≡ Settled []
unfolding stands_within window_within holds_within placing_within is_live_within
upper_half_is_no_io = refl

-- ---- windows that are closed meanwhile

-- one space of a function is shut, the other stays on
one_space_is_shut : settle request (bridge (slot 0 1 0) 3 0x10100 ((0x1c, 0x1010) ∷ (0x20, 0xd000d000) ∷ []) ((0x1c, 0xf0f0) ∷ []) ∷ device (slot 1 0 0) 3 ((0x10, 0xd0000000) ∷ (0x14, 0x1001) ∷ []) ((0x10, 0xfffff000) ∷ (0x14, 0xffffff01) ∷ []) ∷ [])
    ≡ Settled (write (slot 1 0 0) 0x04 2 0x0001 ∷ write (slot 0 1 0) 0x20 4 0xfff0 ∷ write (slot 0 1 0) 0x20 4 0xe000e000 ∷ write (slot 1 0 0) 0x10 4 0xe0000000 ∷ write (slot 1 0 0) 0x04 2 0x0003 ∷ [])
unfolding stands_within window_within holds_within placing_within is_live_within
one_space_is_shut = refl

-- a prefetchable window of more than 4 GB: its upper limit comes down to the upper base, and then the limit is set before the base
upper_limit_is_lowered : settle request (bridge (slot 0 1 0) 2 0x10100 ((0x20, 0xfff0) ∷ (0x24, 0xfff10001) ∷ (0x28, 3) ∷ (0x2c, 5) ∷ []) ((0x24, 0xfff1fff1) ∷ (0x28, 0xffffffff) ∷ (0x2c, 0xffffffff) ∷ []) ∷ device (slot 1 0 0) 2 ((0x10, 0xc) ∷ (0x14, 4) ∷ []) ((0x10, 0xfff0000c) ∷ (0x14, 0xffffffff) ∷ []) ∷ [])
    ≡ Settled (write (slot 1 0 0) 0x04 2 0x0000 ∷ write (slot 0 1 0) 0x24 4 0x1fff1 ∷ write (slot 0 1 0) 0x2c 4 3 ∷ write (slot 0 1 0) 0x2c 4 1 ∷ write (slot 0 1 0) 0x28 4 1 ∷ write (slot 0 1 0) 0x24 4 0x10001 ∷ write (slot 1 0 0) 0x14 4 1 ∷ write (slot 1 0 0) 0x04 2 0x0002 ∷ [])
unfolding stands_within window_within holds_within placing_within is_live_within
upper_limit_is_lowered = refl

-- an I/O window of more than 64 KB: both upper halves are written at once
upper_ports_are_lowered : settle request (bridge (slot 0 1 0) 1 0x10100 ((0x1c, 0xf101) ∷ (0x20, 0xfff0) ∷ (0x30, 0x00020001) ∷ []) ((0x1c, 0xf1f1) ∷ (0x30, 0xffffffff) ∷ []) ∷ [])
    ≡ Settled (write (slot 0 1 0) 0x1c 2 0x1f1 ∷ write (slot 0 1 0) 0x30 4 0x00010001 ∷ write (slot 0 1 0) 0x30 4 0 ∷ [])
unfolding stands_within window_within holds_within placing_within is_live_within
upper_ports_are_lowered = refl
