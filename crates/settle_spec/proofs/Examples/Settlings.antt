-- What is written to settle small trees.
use Rattle.std.proofs.Common.{◌≡◌, ℕ, List, [], ◌∷◌, refl, true, false, None, Some}
use Rattle.pci_spec.specs.Slot.{Slot}
use Rattle.pci_spec.specs.Window.{IoWindow, MemoryWindow}
use Rattle.pci_spec.specs.System.{System, Function}
use Rattle.pci_spec.proofs.Examples.Samples.{slot, device, bridge, write, range, host}
use Rattle.plan_spec.proofs.Examples.Placed.{start}
use Rattle.judge_spec.specs.ToldClaims.{nothing_told}
use Rattle.settle_spec.specs.Lists.{Lists, RootRange, Spares, Request}
use Rattle.settle_spec.specs.Stands.{stands_within}
use Rattle.settle_spec.specs.Items.{window_within, holds_within}
use Rattle.settle_spec.specs.Keeping.Places.{placing_within}
use Rattle.settle_spec.specs.Keeping.Registers.{is_live_within}
use Rattle.settle_spec.specs.Writes.{Settling, Settled, NoRoom, Fixed, BadLists}
use Rattle.settle_spec.specs.Kept.{as_it_stands}
use Rattle.settle_spec.specs.Keeping.Writes.{settle_keeping}

-- settling beside what stays as it stands
abbrev pub settle : Request → System → Settling
settle q s = settle_keeping q s (as_it_stands q s)

abbrev pub all_roots : ℕ → ℕ → RootRange
all_roots first last = record { root = None; range = range first last }

abbrev pub of_root : ℕ → ℕ → ℕ → RootRange
of_root root first last = record { root = Some root; range = range first last }

abbrev pub lists : Lists
lists = record { io = all_roots 0x1000 0xffff ∷ []; memory = all_roots 0xe0000000 0xe02fffff ∷ []; prefetch = all_roots 0x100000000 0x1ffffffff ∷ [] }

-- no room is wanted
abbrev pub no_spares : Spares
no_spares = record { io = 0; memory = 0; prefetch = 0 }

abbrev pub request : Request
request = record { roots = host; lists = lists; fixed = []; anew = false; slots = []; spares = no_spares; told = nothing_told [] }

-- with other lists
abbrev pub with_io : List RootRange → Request
with_io list = record request { lists = record lists { io = list } }

abbrev pub with_memory : List RootRange → Request
with_memory list = record request { lists = record lists { memory = list } }

abbrev pub with_prefetch : List RootRange → Request
with_prefetch list = record request { lists = record lists { prefetch = list } }

-- a memory BAR of 32 bits behind or beside a bridge that leads to bus 1 and has no window but that of memory
abbrev pub plain : Slot → ℕ → ℕ → ℕ → Function
plain s command value mask = device s command ((0x10, value) ∷ []) ((0x10, mask) ∷ [])

abbrev pub over : ℕ → ℕ → Function
over command window = bridge (slot 0 1 0) command 0x10100 ((0x20, window) ∷ []) []

all_stands : settle request (over 2 0xe000e000 ∷ plain (slot 1 0 0) 2 0xe0000000 0xfffff000 ∷ [])
    ≡ Settled []
unfolding stands_within window_within holds_within placing_within is_live_within
all_stands = refl

what_is_off_stays_off : settle request (over 2 0xe000e000 ∷ plain (slot 1 0 0) 0 0xe0000000 0xfffff000 ∷ [])
    ≡ Settled []
unfolding stands_within window_within holds_within placing_within is_live_within
what_is_off_stays_off = refl

nothing_stands : settle request start
    ≡ Settled (write (slot 0 1 0) 0x20 4 0xfff0 ∷ write (slot 0 1 0) 0x20 4 0xe010e000 ∷ write (slot 0 2 0) 0x10 4 0xe0200000 ∷ write (slot 1 0 0) 0x10 4 0xe0000000 ∷ write (slot 1 0 0) 0x14 4 0xe0100000 ∷ write (slot 0 1 0) 0x04 2 0x0002 ∷ write (slot 0 2 0) 0x04 2 0x0002 ∷ write (slot 1 0 0) 0x04 2 0x0002 ∷ [])
unfolding stands_within window_within holds_within placing_within is_live_within
nothing_stands = refl

-- a new window is as large as what is in it
window_of_3_mb : settle request (over 0 0xfff0 ∷ device (slot 1 0 0) 0 [] ((0x10, 0xfff00000) ∷ (0x14, 0xfff00000) ∷ (0x18, 0xfff00000) ∷ []) ∷ [])
    ≡ Settled (write (slot 0 1 0) 0x20 4 0xe020e000 ∷ write (slot 1 0 0) 0x10 4 0xe0000000 ∷ write (slot 1 0 0) 0x14 4 0xe0100000 ∷ write (slot 1 0 0) 0x18 4 0xe0200000 ∷ write (slot 0 1 0) 0x04 2 0x0002 ∷ write (slot 1 0 0) 0x04 2 0x0002 ∷ [])
unfolding stands_within window_within holds_within placing_within is_live_within
window_of_3_mb = refl

-- of two that clash the lower slot stays,
lower_slot_stays : settle request (plain (slot 0 1 0) 2 0xe0000000 0xfff00000 ∷ plain (slot 0 2 0) 2 0xe0000000 0xfff00000 ∷ [])
    ≡ Settled (write (slot 0 2 0) 0x04 2 0x0000 ∷ write (slot 0 2 0) 0x10 4 0xe0100000 ∷ write (slot 0 2 0) 0x04 2 0x0002 ∷ [])
unfolding stands_within window_within holds_within placing_within is_live_within
lower_slot_stays = refl

-- but what is on before what is off,
what_is_on_stays : settle request (plain (slot 0 1 0) 0 0xe0000000 0xfff00000 ∷ plain (slot 0 2 0) 2 0xe0000000 0xfff00000 ∷ [])
    ≡ Settled (write (slot 0 1 0) 0x10 4 0xe0100000 ∷ write (slot 0 1 0) 0x04 2 0x0002 ∷ [])
unfolding stands_within window_within holds_within placing_within is_live_within
what_is_on_stays = refl

-- and the larger before the smaller
larger_stays : settle request (plain (slot 0 1 0) 2 0xe0000000 0xfff00000 ∷ plain (slot 0 2 0) 2 0xe0000000 0xffe00000 ∷ [])
    ≡ Settled (write (slot 0 1 0) 0x04 2 0x0000 ∷ write (slot 0 1 0) 0x10 4 0xe0200000 ∷ write (slot 0 1 0) 0x04 2 0x0002 ∷ [])
unfolding stands_within window_within holds_within placing_within is_live_within
larger_stays = refl

-- what is plugged in gets a place in the window that stands,
plugged_in : settle request (over 2 0xe000e000 ∷ plain (slot 1 0 0) 2 0xe0000000 0xfffff000 ∷ plain (slot 1 1 0) 0 0 0xfffff000 ∷ [])
    ≡ Settled (write (slot 1 1 0) 0x10 4 0xe0001000 ∷ write (slot 1 1 0) 0x04 2 0x0002 ∷ [])
unfolding stands_within window_within holds_within placing_within is_live_within
plugged_in = refl

-- and the window goes that can't take it
window_goes : settle request (over 2 0xe000e000 ∷ plain (slot 1 0 0) 2 0xe0000000 0xfffff000 ∷ plain (slot 1 1 0) 0 0 0xfff00000 ∷ [])
    ≡ Settled (write (slot 1 0 0) 0x04 2 0x0000 ∷ write (slot 0 1 0) 0x20 4 0xfff0 ∷ write (slot 0 1 0) 0x20 4 0xe010e000 ∷ write (slot 1 0 0) 0x10 4 0xe0100000 ∷ write (slot 1 1 0) 0x10 4 0xe0000000 ∷ write (slot 1 0 0) 0x04 2 0x0002 ∷ write (slot 1 1 0) 0x04 2 0x0002 ∷ [])
unfolding stands_within window_within holds_within placing_within is_live_within
window_goes = refl

-- no 2 MB are free in a row, as what stays is in between,
no_room : settle request (over 2 0xe000e000 ∷ plain (slot 0 2 0) 2 0xe0100000 0xfff00000 ∷ plain (slot 1 0 0) 2 0xe0000000 0xfffff000 ∷ plain (slot 1 1 0) 0 0 0xfff00000 ∷ [])
    ≡ NoRoom MemoryWindow (slot 0 1 0) 0x20 0x200000 0x100000
unfolding stands_within window_within holds_within placing_within is_live_within
no_room = refl

-- but they are where nothing stays
all_anew : settle (record request { anew = true }) (over 2 0xe000e000 ∷ plain (slot 0 2 0) 2 0xe0100000 0xfff00000 ∷ plain (slot 1 0 0) 2 0xe0000000 0xfffff000 ∷ plain (slot 1 1 0) 0 0 0xfff00000 ∷ [])
    ≡ Settled (write (slot 1 0 0) 0x04 2 0x0000 ∷ write (slot 0 2 0) 0x04 2 0x0000 ∷ write (slot 0 1 0) 0x20 4 0xfff0 ∷ write (slot 0 1 0) 0x20 4 0xe010e000 ∷ write (slot 0 2 0) 0x10 4 0xe0200000 ∷ write (slot 1 0 0) 0x10 4 0xe0100000 ∷ write (slot 1 1 0) 0x10 4 0xe0000000 ∷ write (slot 0 2 0) 0x04 2 0x0002 ∷ write (slot 1 0 0) 0x04 2 0x0002 ∷ write (slot 1 1 0) 0x04 2 0x0002 ∷ [])
unfolding stands_within window_within holds_within placing_within is_live_within
all_anew = refl

-- ranges with a hole between them
hole : settle (with_memory (all_roots 0xe0000000 0xe00fffff ∷ all_roots 0xe0200000 0xe03fffff ∷ [])) (plain (slot 0 1 0) 0 0 0xffe00000 ∷ plain (slot 0 2 0) 0 0 0xfff00000 ∷ [])
    ≡ Settled (write (slot 0 1 0) 0x10 4 0xe0200000 ∷ write (slot 0 2 0) 0x10 4 0xe0000000 ∷ write (slot 0 1 0) 0x04 2 0x0002 ∷ write (slot 0 2 0) 0x04 2 0x0002 ∷ [])
unfolding stands_within window_within holds_within placing_within is_live_within
hole = refl

-- a later range is for what stands there, or where nothing else is free
later_range : settle (with_io (all_roots 0x1000 0xffff ∷ all_roots 0x700 0x7ff ∷ [])) (plain (slot 0 0x1f 0) 1 0x701 0xffffffc1 ∷ plain (slot 0 0x1f 1) 0 1 0xffffffc1 ∷ [])
    ≡ Settled (write (slot 0 0x1f 1) 0x10 4 0x00001001 ∷ write (slot 0 0x1f 1) 0x04 2 0x0001 ∷ [])
unfolding stands_within window_within holds_within placing_within is_live_within
later_range = refl

-- a window that firmware left open at 0 is closed
window_left_open_at_0 : settle request (bridge (slot 0 1 0) 2 0x10100 ((0x20, 0xfff0) ∷ (0x24, 0x10001) ∷ []) ((0x24, 0xfff1fff1) ∷ (0x28, 0xffffffff) ∷ (0x2c, 0xffffffff) ∷ []) ∷ plain (slot 0 2 0) 2 0 0xfffff000 ∷ [])
    ≡ Settled (write (slot 0 2 0) 0x04 2 0x0000 ∷ write (slot 0 1 0) 0x24 4 0x1fff1 ∷ write (slot 0 2 0) 0x10 4 0xe0000000 ∷ write (slot 0 2 0) 0x04 2 0x0002 ∷ [])
unfolding stands_within window_within holds_within placing_within is_live_within
window_left_open_at_0 = refl

-- a ROM that is off is left alone; one that is on, and larger, stays
rom_that_is_off : settle request (device (slot 0 1 0) 2 ((0x10, 0xe0000000) ∷ (0x30, 0xe0000000) ∷ []) ((0x10, 0xfffff000) ∷ (0x30, 0xffff0000) ∷ []) ∷ [])
    ≡ Settled []
unfolding stands_within window_within holds_within placing_within is_live_within
rom_that_is_off = refl

rom_that_is_on : settle request (device (slot 0 1 0) 2 ((0x10, 0xe0000000) ∷ (0x30, 0xe0000001) ∷ []) ((0x10, 0xfffff000) ∷ (0x30, 0xffff0000) ∷ []) ∷ [])
    ≡ Settled (write (slot 0 1 0) 0x04 2 0x0000 ∷ write (slot 0 1 0) 0x10 4 0xe0010000 ∷ write (slot 0 1 0) 0x04 2 0x0002 ∷ [])
unfolding stands_within window_within holds_within placing_within is_live_within
rom_that_is_on = refl

-- a prefetchable BAR stays in a memory window, and else gets a place in a prefetchable one
prefetchable_in_memory_stays : settle request (bridge (slot 0 1 0) 2 0x10100 ((0x20, 0xe000e000) ∷ (0x24, 0x1fff1) ∷ []) ((0x24, 0xfff1fff1) ∷ (0x28, 0xffffffff) ∷ (0x2c, 0xffffffff) ∷ []) ∷ device (slot 1 0 0) 2 ((0x10, 0xe000000c) ∷ []) ((0x10, 0xfffff00c) ∷ (0x14, 0xffffffff) ∷ []) ∷ [])
    ≡ Settled []
unfolding stands_within window_within holds_within placing_within is_live_within
prefetchable_in_memory_stays = refl

prefetchable_window_opens : settle request (bridge (slot 0 1 0) 2 0x10100 ((0x20, 0xe000e000) ∷ (0x24, 0x1fff1) ∷ []) ((0x24, 0xfff1fff1) ∷ (0x28, 0xffffffff) ∷ (0x2c, 0xffffffff) ∷ []) ∷ device (slot 1 0 0) 0 ((0x10, 0xc) ∷ []) ((0x10, 0xfffff00c) ∷ (0x14, 0xffffffff) ∷ []) ∷ [])
    ≡ Settled (write (slot 0 1 0) 0x28 4 0x1 ∷ write (slot 0 1 0) 0x2c 4 0x1 ∷ write (slot 0 1 0) 0x24 4 0x10001 ∷ write (slot 1 0 0) 0x14 4 0x1 ∷ write (slot 1 0 0) 0x04 2 0x0002 ∷ [])
unfolding stands_within window_within holds_within placing_within is_live_within
prefetchable_window_opens = refl

-- without ranges of I/O an I/O BAR is left and switched off,
io_is_left : settle (with_io []) (device (slot 0 1 0) 1 ((0x10, 0x1001) ∷ []) ((0x10, 0xffffff01) ∷ (0x14, 0xfffff000) ∷ []) ∷ [])
    ≡ Settled (write (slot 0 1 0) 0x04 2 0x0000 ∷ write (slot 0 1 0) 0x14 4 0xe0000000 ∷ write (slot 0 1 0) 0x04 2 0x0002 ∷ [])
unfolding stands_within window_within holds_within placing_within is_live_within
io_is_left = refl

-- as it is behind a bridge without an I/O window
io_is_left_behind : settle request (over 0 0xfff0 ∷ device (slot 1 0 0) 0 ((0x10, 1) ∷ []) ((0x10, 0xffffff01) ∷ (0x14, 0xfffff000) ∷ []) ∷ [])
    ≡ Settled (write (slot 0 1 0) 0x20 4 0xe000e000 ∷ write (slot 1 0 0) 0x14 4 0xe0000000 ∷ write (slot 0 1 0) 0x04 2 0x0002 ∷ write (slot 1 0 0) 0x04 2 0x0002 ∷ [])
unfolding stands_within window_within holds_within placing_within is_live_within
io_is_left_behind = refl

-- ---- I/O above FFFFh

-- a bridge whose I/O window has upper halves, open from 10000h to 10FFFh, and a sound board behind it
abbrev sound_over : Function
sound_over = bridge (slot 0 1 0) 1 0x10100 ((0x1c, 0x0101) ∷ (0x20, 0xfff0) ∷ (0x30, 0x00010001) ∷ []) ((0x1c, 0xf1f1) ∷ (0x30, 0xffffffff) ∷ [])

abbrev sound : Function
sound = device (slot 1 0 0) 1 ((0x10, 0x10001) ∷ []) ((0x10, 0xffffffc1) ∷ [])

abbrev high_io : RootRange
high_io = all_roots 0x10000 0x1ffff

io_above_ffff_stays : settle (with_io (high_io ∷ [])) (sound_over ∷ sound ∷ [])
    ≡ Settled []
unfolding stands_within window_within holds_within placing_within is_live_within
io_above_ffff_stays = refl

-- an I/O BAR of 16 bits gets a place below 10000h,
abbrev low_io : Function
low_io = device (slot 0 2 0) 0 ((0x10, 1) ∷ []) ((0x10, 0xffc1) ∷ [])

io_of_16_bits : settle (with_io (high_io ∷ all_roots 0x1000 0x1fff ∷ [])) (sound_over ∷ low_io ∷ sound ∷ [])
    ≡ Settled (write (slot 0 2 0) 0x10 4 0x1001 ∷ write (slot 0 2 0) 0x04 2 0x0001 ∷ [])
unfolding stands_within window_within holds_within placing_within is_live_within
io_of_16_bits = refl

-- or none at all,
no_io_of_16_bits : settle (with_io (high_io ∷ [])) (sound_over ∷ low_io ∷ sound ∷ [])
    ≡ NoRoom IoWindow (slot 0 2 0) 0x10 0x40 0x40
unfolding stands_within window_within holds_within placing_within is_live_within
no_io_of_16_bits = refl

-- and so does a window around one
no_window_of_16_bits : settle (with_io (high_io ∷ [])) (sound_over ∷ sound ∷ device (slot 1 1 0) 0 ((0x10, 1) ∷ []) ((0x10, 0xffc1) ∷ []) ∷ [])
    ≡ NoRoom IoWindow (slot 0 1 0) 0x1c 0x1000 0x1000
unfolding stands_within window_within holds_within placing_within is_live_within
no_window_of_16_bits = refl

-- what is on is shut while the bridge above it is off
bridge_is_off : settle request (over 0 0xe000e000 ∷ plain (slot 1 0 0) 2 0xe0000000 0xfffff000 ∷ [])
    ≡ Settled (write (slot 1 0 0) 0x04 2 0x0000 ∷ write (slot 0 1 0) 0x04 2 0x0002 ∷ write (slot 1 0 0) 0x04 2 0x0002 ∷ [])
unfolding stands_within window_within holds_within placing_within is_live_within
bridge_is_off = refl

-- what is fixed comes first,
fixed_stays : settle (record request { fixed = slot 0 2 0 ∷ [] }) (plain (slot 0 1 0) 2 0xe0000000 0xfff00000 ∷ plain (slot 0 2 0) 2 0xe0000000 0xfff00000 ∷ [])
    ≡ Settled (write (slot 0 1 0) 0x04 2 0x0000 ∷ write (slot 0 1 0) 0x10 4 0xe0100000 ∷ write (slot 0 1 0) 0x04 2 0x0002 ∷ [])
unfolding stands_within window_within holds_within placing_within is_live_within
fixed_stays = refl

-- and where the window over it has to go nothing is written
fixed_can_not_stay : settle (record request { fixed = slot 1 0 0 ∷ [] }) (over 2 0xe000e000 ∷ plain (slot 1 0 0) 2 0xe0000000 0xfffff000 ∷ plain (slot 1 1 0) 0 0 0xfff00000 ∷ [])
    ≡ Fixed (slot 1 0 0) 0x10
unfolding stands_within window_within holds_within placing_within is_live_within
fixed_can_not_stay = refl

-- ranges of one root alone
ranges_of_roots : settle (record request { roots = 0 ∷ 0x40 ∷ []; lists = record lists { memory = of_root 0 0xe0000000 0xe00fffff ∷ of_root 0x40 0xe0100000 0xe01fffff ∷ [] } }) (plain (slot 0 1 0) 0 0 0xfff00000 ∷ plain (slot 0x40 1 0) 0 0 0xfff00000 ∷ [])
    ≡ Settled (write (slot 0 1 0) 0x10 4 0xe0000000 ∷ write (slot 0x40 1 0) 0x10 4 0xe0100000 ∷ write (slot 0 1 0) 0x04 2 0x0002 ∷ write (slot 0x40 1 0) 0x04 2 0x0002 ∷ [])
unfolding stands_within window_within holds_within placing_within is_live_within
ranges_of_roots = refl

other_root_is_no_help : settle (record request { roots = 0 ∷ 0x40 ∷ []; lists = record lists { memory = of_root 0 0xe0000000 0xe00fffff ∷ of_root 0x40 0xe0100000 0xe01fffff ∷ [] } }) (plain (slot 0 1 0) 0 0 0xfff00000 ∷ plain (slot 0x40 1 0) 0 0 0xfff00000 ∷ plain (slot 0x40 2 0) 0 0 0xfffff000 ∷ [])
    ≡ NoRoom MemoryWindow (slot 0x40 2 0) 0x10 0x1000 0x1000
unfolding stands_within window_within holds_within placing_within is_live_within
other_root_is_no_help = refl

-- ---- lists that are refused

abbrev pub refused : Lists → Settling
refused lists = settle (record request { lists = lists }) []

backward_range : refused (record lists { memory = all_roots 2 1 ∷ [] }) ≡ BadLists
backward_range = refl

io_above_32_bits : refused (record lists { io = all_roots 0x1000 0x100000000 ∷ [] }) ≡ BadLists
io_above_32_bits = refl

memory_above_32_bits : refused (record lists { memory = all_roots 0x1000 0x100000000 ∷ [] }) ≡ BadLists
memory_above_32_bits = refl

range_of_no_root : refused (record lists { prefetch = of_root 1 0x1000 0x1fff ∷ [] }) ≡ BadLists
range_of_no_root = refl

ranges_share_an_address : refused (record lists { prefetch = all_roots 0x1000 0x1fff ∷ of_root 0 0x1fff 0x2fff ∷ [] }) ≡ BadLists
ranges_share_an_address = refl

-- two lists may share addresses, and any may be empty
lists_may_share : refused (record lists { io = []; prefetch = lists.memory }) ≡ Settled []
unfolding placing_within
lists_may_share = refl
