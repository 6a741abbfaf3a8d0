-- Room behind hot-plug slots: what is written to settle small trees, and which spares are denied.
use Rattle.std.proofs.Common.{◌≡◌, ℕ, List, [], ◌∷◌, map, refl, true}
use Rattle.pci_spec.specs.Slot.{Slot}
use Rattle.pci_spec.specs.Window.{MemoryWindow}
use Rattle.pci_spec.specs.System.{System, Function, register_of}
use Rattle.pci_spec.proofs.Examples.Samples.{slot, device, bridge, write}
use Rattle.settle_spec.specs.Lists.{Request}
use Rattle.settle_spec.specs.Spares.{power_in, doubled_in, spare_extent}
use Rattle.settle_spec.specs.Stands.{stands_within}
use Rattle.settle_spec.specs.Items.{window_within, holds_within}
use Rattle.settle_spec.specs.Reach.{reach_within}
use Rattle.settle_spec.specs.Growth.{there_beside, there_within}
use Rattle.settle_spec.specs.Keeping.Places.{placing_within}
use Rattle.settle_spec.specs.Keeping.Registers.{is_live_within}
use Rattle.settle_spec.specs.Writes.{Settling, Settled}
use Rattle.settle_spec.specs.Wishes.{ending_within, spared_within}
use Rattle.settle_spec.specs.Sparing.{settle_sparing, denied}
use Rattle.settle_spec.proofs.Examples.Settlings.{all_roots, lists, plain, over}
use Rattle.settle_spec.proofs.Examples.Growth.{roomy, disk, card, outer, upper_halves, high_over, high_disk}

-- ---- how large a spare is

powers : map power_in (0x1000 ∷ 0x3000 ∷ 0x300000 ∷ 0x600000 ∷ 0x10000000000000000 ∷ []) ≡ 0x1000 ∷ 0x1000 ∷ 0x100000 ∷ 0x200000 ∷ 0x10000000000000000 ∷ []
unfolding doubled_in
powers = refl

whole_pages : spare_extent MemoryWindow 0x180000 0xffffffff ≡ record { size = 0x200000; alignment = 0x200000; highest = 0xffffffff }
unfolding doubled_in
whole_pages = refl

of_3_mb : spare_extent MemoryWindow 0x300000 0xffffffff ≡ record { size = 0x300000; alignment = 0x100000; highest = 0xffffffff }
unfolding doubled_in
of_3_mb = refl

-- ---- one slot

-- a slot, and what is wanted behind it
abbrev pub wanting : ℕ → ℕ → ℕ → List Slot → Request
wanting io memory prefetch slots = record roomy { slots = slots; spares = record { io = io; memory = memory; prefetch = prefetch } }

-- what is written, and the slots and registers that are denied
abbrev pub answer : Request → System → Settling × List (Slot × ℕ)
answer q s = (settle_sparing q s, map (λ r. (r.function.slot, register_of r.function r.part)) (denied q s))

-- a device beside a bridge
abbrev beside : ℕ → Function
beside value = plain (slot 0 2 0) 2 value 0xfff00000

abbrev pub first_port : List Slot
first_port = slot 0 1 0 ∷ []

-- a window ends later for a spare of 2 MB, which is aligned to 2 MB
ends_later : answer (wanting 0 0x200000 0 first_port) (over 2 0xe000e000 ∷ disk ∷ [])
    ≡ (Settled (write (slot 0 1 0) 0x20 4 0xe030e000 ∷ []), [])
unfolding stands_within window_within holds_within reach_within there_beside there_within placing_within is_live_within ending_within spared_within doubled_in
ends_later = refl

-- closed windows over an empty slot are opened, and no Command bit is set
closed_windows_are_opened : answer (wanting 0 0x200000 0x200000 first_port) (bridge (slot 0 1 0) 0 0x10100 ((0x20, 0xfff0) ∷ (0x24, 0x1fff1) ∷ []) upper_halves ∷ [])
    ≡ (Settled (write (slot 0 1 0) 0x20 4 0xe010e000 ∷ write (slot 0 1 0) 0x28 4 1 ∷ write (slot 0 1 0) 0x2c 4 1 ∷ write (slot 0 1 0) 0x24 4 0x00110001 ∷ []), [])
unfolding stands_within window_within holds_within reach_within there_beside there_within placing_within is_live_within ending_within spared_within doubled_in
closed_windows_are_opened = refl

-- what is behind the window is taken: it is told
what_is_behind_is_taken : answer (wanting 0 0x200000 0 first_port) (over 2 0xe000e000 ∷ beside 0xe0100000 ∷ disk ∷ [])
    ≡ (Settled [], (slot 0 1 0, 0x20) ∷ [])
unfolding stands_within window_within holds_within reach_within there_beside there_within placing_within is_live_within ending_within spared_within doubled_in
what_is_behind_is_taken = refl

-- a bridge without a slot has no spare
no_slot : answer (wanting 0 0x200000 0 []) (over 2 0xe000e000 ∷ disk ∷ [])
    ≡ (Settled [], [])
unfolding stands_within window_within holds_within reach_within there_beside there_within placing_within is_live_within ending_within spared_within doubled_in
no_slot = refl

-- nor has a slot whose window of the class isn't implemented
no_such_window : answer (wanting 0x1000 0 0x100000 first_port) (over 2 0xe000e000 ∷ disk ∷ [])
    ≡ (Settled [], [])
unfolding stands_within window_within holds_within reach_within there_beside there_within placing_within is_live_within ending_within spared_within doubled_in
no_such_window = refl

-- a card has room in place, its spare hasn't: nothing goes for it
card_before_spare : answer (wanting 0 0x200000 0 first_port) (over 2 0xe000e000 ∷ beside 0xe0200000 ∷ disk ∷ card 0xfff00000 ∷ [])
    ≡ (Settled (write (slot 0 1 0) 0x20 4 0xe010e000 ∷ write (slot 1 1 0) 0x10 4 0xe0100000 ∷ write (slot 1 1 0) 0x04 2 0x0002 ∷ []), (slot 0 1 0, 0x20) ∷ [])
unfolding stands_within window_within holds_within reach_within there_beside there_within placing_within is_live_within ending_within spared_within doubled_in
card_before_spare = refl

-- a device has no slot, so nothing is denied
device_is_no_slot : answer (wanting 0 0x10000000 0 (slot 0 2 0 ∷ [])) (device (slot 0 2 0) 2 ((0x20, 0xe0100000) ∷ []) ((0x20, 0xfff00000) ∷ []) ∷ [])
    ≡ (Settled [], [])
unfolding stands_within window_within holds_within reach_within there_beside there_within placing_within is_live_within ending_within spared_within doubled_in
device_is_no_slot = refl

-- a window that is closed by its upper halves alone is closed by its lower ones before it is opened
closed_by_upper_halves : answer (wanting 0 0 0x100000 first_port) (bridge (slot 0 1 0) 0 0x10100 ((0x20, 0xfff0) ∷ (0x24, 0x10001) ∷ (0x28, 5) ∷ (0x2c, 3) ∷ []) upper_halves ∷ [])
    ≡ (Settled (write (slot 0 1 0) 0x24 4 0x1fff1 ∷ write (slot 0 1 0) 0x2c 4 1 ∷ write (slot 0 1 0) 0x28 4 1 ∷ write (slot 0 1 0) 0x24 4 0x10001 ∷ []), [])
unfolding stands_within window_within holds_within reach_within there_beside there_within placing_within is_live_within ending_within spared_within doubled_in
closed_by_upper_halves = refl

-- ---- new windows

-- a new window has its spare behind its items
new_window_has_spare : answer (wanting 0 0x100000 0 first_port) (over 0 0xfff0 ∷ plain (slot 1 0 0) 0 0 0xfff00000 ∷ [])
    ≡ (Settled (write (slot 0 1 0) 0x20 4 0xe010e000 ∷ write (slot 1 0 0) 0x10 4 0xe0000000 ∷ write (slot 0 1 0) 0x04 2 0x0002 ∷ write (slot 1 0 0) 0x04 2 0x0002 ∷ []), [])
unfolding stands_within window_within holds_within reach_within there_beside there_within placing_within is_live_within ending_within spared_within doubled_in
new_window_has_spare = refl

-- so have two beside each other, where a wish would come too late for the lower one
new_windows_beside_each_other : answer (wanting 0 0x100000 0 (slot 0 1 0 ∷ slot 0 2 0 ∷ [])) (over 0 0xfff0 ∷ bridge (slot 0 2 0) 0 0x20200 ((0x20, 0xfff0) ∷ []) [] ∷ plain (slot 1 0 0) 0 0 0xfff00000 ∷ plain (slot 2 0 0) 0 0 0xfff00000 ∷ [])
    ≡ (Settled (write (slot 0 1 0) 0x20 4 0xe010e000 ∷ write (slot 0 2 0) 0x20 4 0xe030e020 ∷ write (slot 1 0 0) 0x10 4 0xe0000000 ∷ write (slot 2 0 0) 0x10 4 0xe0200000 ∷ write (slot 0 1 0) 0x04 2 0x0002 ∷ write (slot 0 2 0) 0x04 2 0x0002 ∷ write (slot 1 0 0) 0x04 2 0x0002 ∷ write (slot 2 0 0) 0x04 2 0x0002 ∷ []), [])
unfolding stands_within window_within holds_within reach_within there_beside there_within placing_within is_live_within ending_within spared_within doubled_in
new_windows_beside_each_other = refl

-- for a spare of this new window that of the bridge above would go: it has none
part_would_go : answer (wanting 0 0x100000 0 (slot 1 1 0 ∷ [])) (outer 0xe010e000 ∷ beside 0xe0200000 ∷ disk ∷ bridge (slot 1 1 0) 0 0x20201 ((0x20, 0xfff0) ∷ []) [] ∷ plain (slot 2 0 0) 0 0 0xfff00000 ∷ [])
    ≡ (Settled (write (slot 1 1 0) 0x20 4 0xe010e010 ∷ write (slot 2 0 0) 0x10 4 0xe0100000 ∷ write (slot 1 1 0) 0x04 2 0x0002 ∷ write (slot 2 0 0) 0x04 2 0x0002 ∷ []), (slot 1 1 0, 0x20) ∷ [])
unfolding stands_within window_within holds_within reach_within there_beside there_within placing_within is_live_within ending_within spared_within doubled_in
part_would_go = refl

-- with spares two new windows don't fit: neither has one, and the higher slot gets one in place
no_room_with_spares : answer (record (wanting 0 0x100000 0 (slot 0 1 0 ∷ slot 0 2 0 ∷ [])) { lists = record lists { memory = all_roots 0xe0000000 0xe02fffff ∷ [] } }) (over 0 0xfff0 ∷ bridge (slot 0 2 0) 0 0x20200 ((0x20, 0xfff0) ∷ []) [] ∷ plain (slot 1 0 0) 0 0 0xfff00000 ∷ plain (slot 2 0 0) 0 0 0xfff00000 ∷ [])
    ≡ (Settled (write (slot 0 1 0) 0x20 4 0xe000e000 ∷ write (slot 0 2 0) 0x20 4 0xe020e010 ∷ write (slot 1 0 0) 0x10 4 0xe0000000 ∷ write (slot 2 0 0) 0x10 4 0xe0100000 ∷ write (slot 0 1 0) 0x04 2 0x0002 ∷ write (slot 0 2 0) 0x04 2 0x0002 ∷ write (slot 1 0 0) 0x04 2 0x0002 ∷ write (slot 2 0 0) 0x04 2 0x0002 ∷ []), (slot 0 1 0, 0x20) ∷ [])
unfolding stands_within window_within holds_within reach_within there_beside there_within placing_within is_live_within ending_within spared_within doubled_in
no_room_with_spares = refl

-- a new window of 1 MB with a spare of 2 MB has 4 MB, for which there is no room
spare_is_behind_items : answer (record (wanting 0 0x200000 0 first_port) { lists = record lists { memory = all_roots 0xe0000000 0xe02fffff ∷ [] } }) (over 0 0xfff0 ∷ plain (slot 1 0 0) 0 0 0xfff00000 ∷ [])
    ≡ (Settled (write (slot 0 1 0) 0x20 4 0xe000e000 ∷ write (slot 1 0 0) 0x10 4 0xe0000000 ∷ write (slot 0 1 0) 0x04 2 0x0002 ∷ write (slot 1 0 0) 0x04 2 0x0002 ∷ []), (slot 0 1 0, 0x20) ∷ [])
unfolding stands_within window_within holds_within reach_within there_beside there_within placing_within is_live_within ending_within spared_within doubled_in
spare_is_behind_items = refl

-- ---- behind one another

-- slots behind a switch, all of whose windows are closed: the highest slot comes first, and windows above are opened and end later
behind_a_switch : answer (wanting 0 0x100000 0 (slot 2 0 0 ∷ slot 2 1 0 ∷ [])) (bridge (slot 0 1 0) 0 0x40100 ((0x20, 0xfff0) ∷ []) [] ∷ bridge (slot 1 0 0) 0 0x40201 ((0x20, 0xfff0) ∷ []) [] ∷ bridge (slot 2 0 0) 0 0x30302 ((0x20, 0xfff0) ∷ []) [] ∷ bridge (slot 2 1 0) 0 0x40402 ((0x20, 0xfff0) ∷ []) [] ∷ [])
    ≡ (Settled (write (slot 0 1 0) 0x20 4 0xe010e000 ∷ write (slot 1 0 0) 0x20 4 0xe010e000 ∷ write (slot 2 0 0) 0x20 4 0xe010e010 ∷ write (slot 2 1 0) 0x20 4 0xe000e000 ∷ []), [])
unfolding stands_within window_within holds_within reach_within there_beside there_within placing_within is_live_within ending_within spared_within doubled_in
behind_a_switch = refl

-- all is placed anew and comes to where it is; the window above ends later for a spare alone, and nothing is switched off
nothing_is_switched_off : answer (record (wanting 0 0x100000 0 (slot 1 1 0 ∷ [])) { anew = true }) (outer 0xe000e000 ∷ disk ∷ bridge (slot 1 1 0) 0 0x20201 ((0x20, 0xfff0) ∷ []) [] ∷ [])
    ≡ (Settled (write (slot 0 1 0) 0x20 4 0xe010e000 ∷ write (slot 1 1 0) 0x20 4 0xe010e010 ∷ []), [])
unfolding stands_within window_within holds_within reach_within there_beside there_within placing_within is_live_within ending_within spared_within doubled_in
nothing_is_switched_off = refl

-- ---- where there is no room

-- one range has to hold the window and what it gains
one_range_holds_all : answer (record (wanting 0 0x100000 0 first_port) { lists = record lists { memory = all_roots 0xe0000000 0xe00fffff ∷ all_roots 0xe0100000 0xe0ffffff ∷ [] } }) (over 2 0xe000e000 ∷ disk ∷ [])
    ≡ (Settled [], (slot 0 1 0, 0x20) ∷ [])
unfolding stands_within window_within holds_within reach_within there_beside there_within placing_within is_live_within ending_within spared_within doubled_in
one_range_holds_all = refl

-- a fixed bridge isn't written
fixed_bridge : answer (record (wanting 0 0x100000 0 first_port) { fixed = slot 0 1 0 ∷ [] }) (over 2 0xe000e000 ∷ disk ∷ [])
    ≡ (Settled [], (slot 0 1 0, 0x20) ∷ [])
unfolding stands_within window_within holds_within reach_within there_beside there_within placing_within is_live_within ending_within spared_within doubled_in
fixed_bridge = refl

-- memory comes before prefetchable memory
memory_first : answer (record (wanting 0 0x100000 0x100000 first_port) { lists = record lists { memory = all_roots 0xe0000000 0xe00fffff ∷ []; prefetch = all_roots 0xe0000000 0xe00fffff ∷ [] } }) (bridge (slot 0 1 0) 0 0x10100 ((0x20, 0xfff0) ∷ (0x24, 0x1fff1) ∷ []) upper_halves ∷ [])
    ≡ (Settled (write (slot 0 1 0) 0x20 4 0xe000e000 ∷ []), (slot 0 1 0, 0x24) ∷ [])
unfolding stands_within window_within holds_within reach_within there_beside there_within placing_within is_live_within ending_within spared_within doubled_in
memory_first = refl

-- above 4 GB the lower half of the limit doesn't fall, so the window ends at 2FFFFFFFFh,
lower_half_is_kept : answer (record (wanting 0 0 0x100000 first_port) { lists = record lists { prefetch = all_roots 0x100000000 0x3ffffffff ∷ [] } }) (high_over ∷ high_disk ∷ [])
    ≡ (Settled (write (slot 0 1 0) 0x2c 4 2 ∷ []), [])
unfolding stands_within window_within holds_within reach_within there_beside there_within placing_within is_live_within ending_within spared_within doubled_in
lower_half_is_kept = refl

-- and not where something else has an address up to there
lower_half_is_in_the_way : answer (record (wanting 0 0 0x100000 first_port) { lists = record lists { prefetch = all_roots 0x100000000 0x3ffffffff ∷ [] } }) (high_over ∷ device (slot 0 2 0) 2 ((0x10, 0x4000000c) ∷ (0x14, 2) ∷ []) ((0x10, 0xfff0000c) ∷ (0x14, 0xffffffff) ∷ []) ∷ high_disk ∷ [])
    ≡ (Settled [], (slot 0 1 0, 0x24) ∷ [])
unfolding stands_within window_within holds_within reach_within there_beside there_within placing_within is_live_within ending_within spared_within doubled_in
lower_half_is_in_the_way = refl

-- a spare for which there is no room at all
too_large : answer (wanting 0 0xffffffffffffffff 0 first_port) (over 0 0xfff0 ∷ plain (slot 1 0 0) 0 0 0xfff00000 ∷ [])
    ≡ (Settled (write (slot 0 1 0) 0x20 4 0xe000e000 ∷ write (slot 1 0 0) 0x10 4 0xe0000000 ∷ write (slot 0 1 0) 0x04 2 0x0002 ∷ write (slot 1 0 0) 0x04 2 0x0002 ∷ []), (slot 0 1 0, 0x20) ∷ [])
unfolding stands_within window_within holds_within reach_within there_beside there_within placing_within is_live_within ending_within spared_within doubled_in
too_large = refl

-- nor is a closed window of one
fixed_and_closed : answer (record (wanting 0 0x100000 0 first_port) { fixed = slot 0 1 0 ∷ [] }) (over 0 0xfff0 ∷ [])
    ≡ (Settled [], (slot 0 1 0, 0x20) ∷ [])
unfolding stands_within window_within holds_within reach_within there_beside there_within placing_within is_live_within ending_within spared_within doubled_in
fixed_and_closed = refl

-- a window without upper halves ends below 4 GB,
no_upper_halves : answer (record (wanting 0 0 0x100000 first_port) { lists = record lists { prefetch = all_roots 0xf0000000 0x1ffffffff ∷ [] } }) (bridge (slot 0 1 0) 2 0x10100 ((0x20, 0xfff0) ∷ (0x24, 0xfff0fff0) ∷ []) ((0x24, 0xfff0fff0) ∷ []) ∷ device (slot 1 0 0) 2 ((0x10, 0xfff00008) ∷ []) ((0x10, 0xfff00008) ∷ []) ∷ [])
    ≡ (Settled [], (slot 0 1 0, 0x24) ∷ [])
unfolding stands_within window_within holds_within reach_within there_beside there_within placing_within is_live_within ending_within spared_within doubled_in
no_upper_halves = refl

-- and so it does behind one that is above
no_upper_halves_behind : answer (wanting 0 0 0x100000 (slot 1 1 0 ∷ [])) (bridge (slot 0 1 0) 0 0x20100 ((0x20, 0xfff0) ∷ (0x24, 0x1fff1) ∷ []) upper_halves ∷ bridge (slot 1 1 0) 0 0x20201 ((0x20, 0xfff0) ∷ (0x24, 0xfff0) ∷ []) ((0x24, 0xfff0fff0) ∷ []) ∷ [])
    ≡ (Settled [], (slot 1 1 0, 0x24) ∷ [])
unfolding stands_within window_within holds_within reach_within there_beside there_within placing_within is_live_within ending_within spared_within doubled_in
no_upper_halves_behind = refl

-- also where that one is open
no_upper_halves_in_one_that_is_open : answer (wanting 0 0 0x100000 (slot 1 1 0 ∷ [])) (bridge (slot 0 1 0) 0 0x20100 ((0x20, 0xfff0) ∷ (0x24, 0x10001) ∷ (0x28, 1) ∷ (0x2c, 1) ∷ []) upper_halves ∷ bridge (slot 1 1 0) 0 0x20201 ((0x20, 0xfff0) ∷ (0x24, 0xfff0) ∷ []) ((0x24, 0xfff0fff0) ∷ []) ∷ [])
    ≡ (Settled [], (slot 1 1 0, 0x24) ∷ [])
unfolding stands_within window_within holds_within reach_within there_beside there_within placing_within is_live_within ending_within spared_within doubled_in
no_upper_halves_in_one_that_is_open = refl

-- a window above without upper halves ends below 4 GB, too
no_upper_halves_above : answer (record (wanting 0 0 0x100000 (slot 1 1 0 ∷ [])) { lists = record lists { prefetch = all_roots 0xf0000000 0x1ffffffff ∷ [] } }) (bridge (slot 0 1 0) 2 0x20100 ((0x20, 0xfff0) ∷ (0x24, 0xfff0fff0) ∷ []) ((0x24, 0xfff0fff0) ∷ []) ∷ device (slot 1 0 0) 2 ((0x10, 0xfff00008) ∷ []) ((0x10, 0xfff00008) ∷ []) ∷ bridge (slot 1 1 0) 0 0x20201 ((0x20, 0xfff0) ∷ (0x24, 0x1fff1) ∷ []) upper_halves ∷ [])
    ≡ (Settled [], (slot 1 1 0, 0x24) ∷ [])
unfolding stands_within window_within holds_within reach_within there_beside there_within placing_within is_live_within ending_within spared_within doubled_in
no_upper_halves_above = refl

-- the bridge above has no such window
no_window_above : answer (record (wanting 0 0 0x100000 (slot 1 1 0 ∷ [])) { lists = record lists { prefetch = all_roots 0xf0000000 0x1ffffffff ∷ [] } }) (bridge (slot 0 1 0) 0 0x20100 ((0x20, 0xfff0) ∷ []) [] ∷ bridge (slot 1 1 0) 0 0x20201 ((0x20, 0xfff0) ∷ (0x24, 0x1fff1) ∷ []) upper_halves ∷ [])
    ≡ (Settled [], (slot 1 1 0, 0x24) ∷ [])
unfolding stands_within window_within holds_within reach_within there_beside there_within placing_within is_live_within ending_within spared_within doubled_in
no_window_above = refl

-- what is denied is told by falling slot, and of a slot by rising register
denied_in_turn : answer (record (wanting 0 0x100000 0x100000 (slot 0 1 0 ∷ slot 0 2 0 ∷ [])) { lists = record lists { memory = []; prefetch = [] } }) (bridge (slot 0 1 0) 0 0x10100 ((0x20, 0xfff0) ∷ (0x24, 0x1fff1) ∷ []) upper_halves ∷ bridge (slot 0 2 0) 0 0x20200 ((0x20, 0xfff0) ∷ []) [] ∷ [])
    ≡ (Settled [], (slot 0 2 0, 0x20) ∷ (slot 0 1 0, 0x20) ∷ (slot 0 1 0, 0x24) ∷ [])
unfolding stands_within window_within holds_within reach_within there_beside there_within placing_within is_live_within ending_within spared_within doubled_in
denied_in_turn = refl
