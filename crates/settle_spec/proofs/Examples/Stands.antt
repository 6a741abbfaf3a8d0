-- What stays where it stands: which of two that clash comes first, and in which ranges and windows a part can stand.
use Rattle.std.proofs.Common.{◌≡◌, [], ◌∷◌, refl}
use Rattle.pci_spec.proofs.Examples.Samples.{slot, device, bridge, write}
use Rattle.settle_spec.specs.Lists.{Request}
use Rattle.settle_spec.specs.Stands.{stands_within}
use Rattle.settle_spec.specs.Items.{window_within, holds_within}
use Rattle.settle_spec.specs.Keeping.Places.{placing_within}
use Rattle.settle_spec.specs.Keeping.Registers.{is_live_within}
use Rattle.settle_spec.specs.Writes.{Settled}
use Rattle.settle_spec.proofs.Examples.Settlings.{settle, all_roots, lists, request, with_memory, with_prefetch, plain, over}

-- ---- which comes first

-- a BAR that is on comes before a larger one that is off
on_before_larger : settle (with_memory (all_roots 0xe0000000 0xe03fffff ∷ [])) (plain (slot 0 1 0) 0 0xe0000000 0xffe00000 ∷ plain (slot 0 2 0) 2 0xe0000000 0xfff00000 ∷ [])
    ≡ Settled (write (slot 0 1 0) 0x10 4 0xe0200000 ∷ write (slot 0 1 0) 0x04 2 0x0002 ∷ [])
unfolding stands_within window_within holds_within placing_within is_live_within
on_before_larger = refl

-- what is fixed comes before what is on, and before what is larger
fixed_before_on : settle (record request { fixed = slot 0 2 0 ∷ [] }) (plain (slot 0 1 0) 2 0xe0000000 0xfff00000 ∷ plain (slot 0 2 0) 0 0xe0000000 0xfff00000 ∷ [])
    ≡ Settled (write (slot 0 1 0) 0x04 2 0x0000 ∷ write (slot 0 1 0) 0x10 4 0xe0100000 ∷ write (slot 0 1 0) 0x04 2 0x0002 ∷ [])
unfolding stands_within window_within holds_within placing_within is_live_within
fixed_before_on = refl

fixed_before_larger : settle (record request { lists = record lists { memory = all_roots 0xe0000000 0xe03fffff ∷ [] }; fixed = slot 0 2 0 ∷ [] }) (plain (slot 0 1 0) 2 0xe0000000 0xffe00000 ∷ plain (slot 0 2 0) 2 0xe0000000 0xfff00000 ∷ [])
    ≡ Settled (write (slot 0 1 0) 0x04 2 0x0000 ∷ write (slot 0 1 0) 0x10 4 0xe0200000 ∷ write (slot 0 1 0) 0x04 2 0x0002 ∷ [])
unfolding stands_within window_within holds_within placing_within is_live_within
fixed_before_larger = refl

-- of one function the lower register stays
lower_register_stays : settle request (device (slot 0 1 0) 2 ((0x10, 0xe0000000) ∷ (0x14, 0xe0000000) ∷ []) ((0x10, 0xfff00000) ∷ (0x14, 0xfff00000) ∷ []) ∷ [])
    ≡ Settled (write (slot 0 1 0) 0x04 2 0x0000 ∷ write (slot 0 1 0) 0x14 4 0xe0100000 ∷ write (slot 0 1 0) 0x04 2 0x0002 ∷ [])
unfolding stands_within window_within holds_within placing_within is_live_within
lower_register_stays = refl

-- two that lie in a larger one move
inside_a_larger_one : settle (with_memory (all_roots 0xe0000000 0xe07fffff ∷ [])) (plain (slot 0 1 0) 2 0xe0000000 0xffc00000 ∷ plain (slot 0 2 0) 2 0xe0200000 0xffe00000 ∷ plain (slot 0 3 0) 2 0xe0300000 0xfff00000 ∷ [])
    ≡ Settled (write (slot 0 3 0) 0x04 2 0x0000 ∷ write (slot 0 2 0) 0x04 2 0x0000 ∷ write (slot 0 2 0) 0x10 4 0xe0400000 ∷ write (slot 0 3 0) 0x10 4 0xe0600000 ∷ write (slot 0 2 0) 0x04 2 0x0002 ∷ write (slot 0 3 0) 0x04 2 0x0002 ∷ [])
unfolding stands_within window_within holds_within placing_within is_live_within
inside_a_larger_one = refl

-- ---- on two roots

abbrev two_roots : Request
two_roots = record request { roots = 0 ∷ 0x40 ∷ [] }

-- all roots are one bus: of two with one address on two roots, one moves
roots_are_one_bus : settle two_roots (plain (slot 0 1 0) 2 0xe0000000 0xfff00000 ∷ plain (slot 0x40 1 0) 2 0xe0000000 0xfff00000 ∷ [])
    ≡ Settled (write (slot 0x40 1 0) 0x04 2 0x0000 ∷ write (slot 0x40 1 0) 0x10 4 0xe0100000 ∷ write (slot 0x40 1 0) 0x04 2 0x0002 ∷ [])
unfolding stands_within window_within holds_within placing_within is_live_within
roots_are_one_bus = refl

-- the larger one stays, on whichever root it is
larger_on_other_root : settle two_roots (plain (slot 0 1 0) 2 0xe0000000 0xfff00000 ∷ plain (slot 0x40 1 0) 2 0xe0000000 0xffe00000 ∷ [])
    ≡ Settled (write (slot 0 1 0) 0x04 2 0x0000 ∷ write (slot 0 1 0) 0x10 4 0xe0200000 ∷ write (slot 0 1 0) 0x04 2 0x0002 ∷ [])
unfolding stands_within window_within holds_within placing_within is_live_within
larger_on_other_root = refl

-- what is plugged in on one root leaves free what stands on another
plugged_in_on_other_root : settle two_roots (plain (slot 0 1 0) 2 0xe0000000 0xfff00000 ∷ plain (slot 0x40 1 0) 0 0 0xfff00000 ∷ [])
    ≡ Settled (write (slot 0x40 1 0) 0x10 4 0xe0100000 ∷ write (slot 0x40 1 0) 0x04 2 0x0002 ∷ [])
unfolding stands_within window_within holds_within placing_within is_live_within
plugged_in_on_other_root = refl

-- ---- in another space, on another bus

-- I/O and memory have nothing to do with each other
io_at_the_same_number : settle (record request { lists = record lists { memory = all_roots 0x1000 0xffff ∷ [] } }) (plain (slot 0 1 0) 2 0x1000 0xfffff000 ∷ plain (slot 0 2 0) 1 0x1101 0xffffff01 ∷ [])
    ≡ Settled []
unfolding stands_within window_within holds_within placing_within is_live_within
io_at_the_same_number = refl

-- ---- in lists and windows

-- a memory BAR that stands in a range of prefetchable memory stays there
memory_in_prefetchable_range : settle request (device (slot 0 1 0) 2 ((0x10, 4) ∷ (0x14, 1) ∷ []) ((0x10, 0xfff00004) ∷ (0x14, 0xffffffff) ∷ []) ∷ [])
    ≡ Settled []
unfolding stands_within window_within holds_within placing_within is_live_within
memory_in_prefetchable_range = refl

-- and a prefetchable one in a range of memory
prefetchable_in_memory_range : settle request (device (slot 0 1 0) 2 ((0x10, 0xe000000c) ∷ []) ((0x10, 0xfff0000c) ∷ (0x14, 0xffffffff) ∷ []) ∷ [])
    ≡ Settled []
unfolding stands_within window_within holds_within placing_within is_live_within
prefetchable_in_memory_range = refl

-- a BAR that lies partly outside the ranges moves, at either end
partly_below : settle (with_memory (all_roots 0xe0100000 0xe05fffff ∷ [])) (plain (slot 0 1 0) 2 0xe0000000 0xffe00000 ∷ [])
    ≡ Settled (write (slot 0 1 0) 0x04 2 0x0000 ∷ write (slot 0 1 0) 0x10 4 0xe0200000 ∷ write (slot 0 1 0) 0x04 2 0x0002 ∷ [])
unfolding stands_within window_within holds_within placing_within is_live_within
partly_below = refl

partly_above : settle request (plain (slot 0 1 0) 2 0xe0200000 0xffe00000 ∷ [])
    ≡ Settled (write (slot 0 1 0) 0x04 2 0x0000 ∷ write (slot 0 1 0) 0x10 4 0xe0000000 ∷ write (slot 0 1 0) 0x04 2 0x0002 ∷ [])
unfolding stands_within window_within holds_within placing_within is_live_within
partly_above = refl

-- and one that lies outside the window over it, though in a range
outside_its_window : settle request (over 2 0xe000e000 ∷ plain (slot 1 0 0) 2 0xe0100000 0xfffff000 ∷ [])
    ≡ Settled (write (slot 1 0 0) 0x04 2 0x0000 ∷ write (slot 1 0 0) 0x10 4 0xe0000000 ∷ write (slot 1 0 0) 0x04 2 0x0002 ∷ [])
unfolding stands_within window_within holds_within placing_within is_live_within
outside_its_window = refl

-- a window outside the ranges moves with what is behind it
window_outside_the_ranges : settle request (over 2 0xd000d000 ∷ plain (slot 1 0 0) 2 0xd0000000 0xfffff000 ∷ [])
    ≡ Settled (write (slot 1 0 0) 0x04 2 0x0000 ∷ write (slot 0 1 0) 0x20 4 0xfff0 ∷ write (slot 0 1 0) 0x20 4 0xe000e000 ∷ write (slot 1 0 0) 0x10 4 0xe0000000 ∷ write (slot 1 0 0) 0x04 2 0x0002 ∷ [])
unfolding stands_within window_within holds_within placing_within is_live_within
window_outside_the_ranges = refl

-- ---- with windows

-- a window that clashes with a larger BAR moves, and a BAR that clashes with that window alone stays
clash_with_one_that_moves : settle (with_memory (all_roots 0xe0000000 0xe0bfffff ∷ [])) (plain (slot 0 1 0) 2 0xe0400000 0xffc00000 ∷ bridge (slot 0 2 0) 2 0x10100 ((0x20, 0xe090e070) ∷ []) [] ∷ plain (slot 0 3 0) 2 0xe0800000 0xffe00000 ∷ plain (slot 1 0 0) 2 0xe0700000 0xfff00000 ∷ [])
    ≡ Settled (write (slot 1 0 0) 0x04 2 0x0000 ∷ write (slot 0 2 0) 0x20 4 0xfff0 ∷ write (slot 0 2 0) 0x20 4 0xe000e000 ∷ write (slot 1 0 0) 0x10 4 0xe0000000 ∷ write (slot 1 0 0) 0x04 2 0x0002 ∷ [])
unfolding stands_within window_within holds_within placing_within is_live_within
clash_with_one_that_moves = refl

-- a window of 3 MB comes before a BAR of 2 MB that ends above it
larger_window_stays : settle (with_memory (all_roots 0xe0000000 0xe05fffff ∷ [])) (plain (slot 0 0 0) 2 0xe0200000 0xffe00000 ∷ over 2 0xe020e000 ∷ plain (slot 1 0 0) 2 0xe0000000 0xfff00000 ∷ [])
    ≡ Settled (write (slot 0 0 0) 0x04 2 0x0000 ∷ write (slot 0 0 0) 0x10 4 0xe0400000 ∷ write (slot 0 0 0) 0x04 2 0x0002 ∷ [])
unfolding stands_within window_within holds_within placing_within is_live_within
larger_window_stays = refl

-- a window that is full stays
full_window_stays : settle request (over 2 0xe000e000 ∷ plain (slot 1 0 0) 2 0xe0000000 0xfff00000 ∷ [])
    ≡ Settled []
unfolding stands_within window_within holds_within placing_within is_live_within
full_window_stays = refl

-- the outer window has no room for what is plugged in behind it: all that is behind it loses its place, also in the inner one, and gets another or the same
outer_window_goes : settle request (bridge (slot 0 1 0) 2 0x20100 ((0x20, 0xe000e000) ∷ []) [] ∷ bridge (slot 1 0 0) 2 0x20201 ((0x20, 0xe000e000) ∷ []) [] ∷ plain (slot 1 1 0) 0 0 0xfff00000 ∷ plain (slot 2 0 0) 2 0xe0001000 0xfffff000 ∷ [])
    ≡ Settled (write (slot 2 0 0) 0x04 2 0x0000 ∷ write (slot 0 1 0) 0x20 4 0xfff0 ∷ write (slot 0 1 0) 0x20 4 0xe010e000 ∷ write (slot 1 1 0) 0x10 4 0xe0100000 ∷ write (slot 2 0 0) 0x10 4 0xe0000000 ∷ write (slot 1 1 0) 0x04 2 0x0002 ∷ write (slot 2 0 0) 0x04 2 0x0002 ∷ [])
unfolding stands_within window_within holds_within placing_within is_live_within
outer_window_goes = refl

-- a BAR that both windows over it hold counts as memory: the memory window moves with it, as the other one is larger
in_both_windows : settle (with_prefetch (all_roots 0xe0000000 0xe02fffff ∷ [])) (bridge (slot 0 1 0) 2 0x10100 ((0x20, 0xe000e000) ∷ (0x24, 0xe010e000) ∷ []) ((0x24, 0xfff0fff0) ∷ []) ∷ plain (slot 1 0 0) 2 0xe0000008 0xfffff008 ∷ [])
    ≡ Settled (write (slot 1 0 0) 0x04 2 0x0000 ∷ write (slot 0 1 0) 0x20 4 0xfff0 ∷ write (slot 0 1 0) 0x20 4 0xe020e020 ∷ write (slot 1 0 0) 0x10 4 0xe0200008 ∷ write (slot 1 0 0) 0x04 2 0x0002 ∷ [])
unfolding stands_within window_within holds_within placing_within is_live_within
in_both_windows = refl

-- a prefetchable BAR of 32 bits stays in a prefetchable window below 4 GB
prefetchable_window_below : settle (with_prefetch (all_roots 0xf0000000 0xf0ffffff ∷ [])) (bridge (slot 0 1 0) 2 0x10100 ((0x20, 0xfff0) ∷ (0x24, 0xf000f000) ∷ []) ((0x24, 0xfff0fff0) ∷ []) ∷ plain (slot 1 0 0) 2 0xf0000008 0xfffff008 ∷ [])
    ≡ Settled []
unfolding stands_within window_within holds_within placing_within is_live_within
prefetchable_window_below = refl

-- and in one above which the list ends above 4 GB, though it would be placed as memory there
narrow_in_wide_list : settle (with_prefetch (all_roots 0xf0000000 0x1ffffffff ∷ [])) (bridge (slot 0 1 0) 2 0x10100 ((0x20, 0xfff0) ∷ (0x24, 0xf000f000) ∷ []) ((0x24, 0xfff0fff0) ∷ []) ∷ plain (slot 1 0 0) 2 0xf0000008 0xfffff008 ∷ [])
    ≡ Settled []
unfolding stands_within window_within holds_within placing_within is_live_within
narrow_in_wide_list = refl

-- registers of a device that look like bus numbers make no bridge of it
device_is_no_bridge : settle request (device (slot 0 0 0) 2 ((0x18, 0xe0111100) ∷ []) ((0x18, 0xffffff00) ∷ []) ∷ bridge (slot 0 1 0) 2 0x111100 ((0x20, 0xe000e000) ∷ []) [] ∷ plain (slot 0x11 0 0) 2 0xe0000000 0xfffff000 ∷ plain (slot 0x11 1 0) 0 0 0xfffff000 ∷ [])
    ≡ Settled (write (slot 0x11 1 0) 0x10 4 0xe0001000 ∷ write (slot 0x11 1 0) 0x04 2 0x0002 ∷ [])
unfolding stands_within window_within holds_within placing_within is_live_within
device_is_no_bridge = refl

-- the inner window has no room for what is plugged in behind it, nor has the outer one for a larger inner one: both go
both_windows_go : settle request (bridge (slot 0 1 0) 2 0x20100 ((0x20, 0xe000e000) ∷ []) [] ∷ bridge (slot 1 0 0) 2 0x20201 ((0x20, 0xe000e000) ∷ []) [] ∷ plain (slot 2 0 0) 2 0xe0000000 0xfffff000 ∷ plain (slot 2 1 0) 0 0 0xfff00000 ∷ [])
    ≡ Settled (write (slot 2 0 0) 0x04 2 0x0000 ∷ write (slot 1 0 0) 0x20 4 0xfff0 ∷ write (slot 0 1 0) 0x20 4 0xfff0 ∷ write (slot 0 1 0) 0x20 4 0xe010e000 ∷ write (slot 1 0 0) 0x20 4 0xe010e000 ∷ write (slot 2 0 0) 0x10 4 0xe0100000 ∷ write (slot 2 1 0) 0x10 4 0xe0000000 ∷ write (slot 2 0 0) 0x04 2 0x0002 ∷ write (slot 2 1 0) 0x04 2 0x0002 ∷ [])
unfolding stands_within window_within holds_within placing_within is_live_within
both_windows_go = refl
