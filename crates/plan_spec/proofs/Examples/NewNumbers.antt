-- The numbers that planning puts into address registers and Command, evaluated.
use Rattle.std.proofs.Common.{◌≡◌, ℕ, List, [], ◌∷◌, refl, map}
use Rattle.pci_spec.specs.Number.{number_at}
use Rattle.pci_spec.specs.Header.{layout, address_registers}
use Rattle.pci_spec.specs.System.{Function, System}
use Rattle.plan_spec.specs.Plan.{Pools, items_within, doubled_to}
use Rattle.plan_spec.specs.Place.{start_within}
use Rattle.plan_spec.specs.Planning.Numbers.{new_number, new_command}
use Rattle.pci_spec.proofs.Examples.Samples.{slot, device, bridge, host}
use Rattle.plan_spec.proofs.Examples.Plans.{pools, three, pool}

-- what planning puts into the address registers of a function
abbrev numbers : List ℕ → System → Pools → Function → List ℕ
numbers roots s p f = map (new_number roots s p f) (address_registers (layout f.image))

-- what they hold
abbrev held : Function → List ℕ
held f = map (λ r. number_at f.image r.0 r.1) (address_registers (layout f.image))

-- ---- a BAR of 4 KB and a ROM of 64 KB, from an address that is no multiple

abbrev with_rom : ℕ → Function
with_rom rom = device (slot 0 1 0) 0 ((0x30, rom) ∷ []) ((0x10, 0xfffff000) ∷ (0x30, 0xffff0000) ∷ [])

abbrev odd_pools : Pools
odd_pools = three (pool 0x1000 0xffff) (pool 0xe0000800 0xe0020fff) (pool 0x100000000 0x1ffffffff)

rom_before_the_bar : numbers host (with_rom 0 ∷ []) odd_pools (with_rom 0) ≡ 0xe0020000 ∷ 0 ∷ 0 ∷ 0 ∷ 0 ∷ 0 ∷ 0xe0010000 ∷ []
unfolding start_within items_within doubled_to
rom_before_the_bar = refl

-- its own enable bit stays as it is
rom_that_is_on_stays_on : numbers host (with_rom 1 ∷ []) odd_pools (with_rom 1) ≡ 0xe0020000 ∷ 0 ∷ 0 ∷ 0 ∷ 0 ∷ 0 ∷ 0xe0010001 ∷ []
unfolding start_within items_within doubled_to
rom_that_is_on_stays_on = refl

-- ---- two roots, as one bus

abbrev root_0 : Function
root_0 = device (slot 0 1 0) 0 [] ((0x10, 0xfff00000) ∷ [])

abbrev root_40 : Function
root_40 = device (slot 0x40 1 0) 0 [] ((0x10, 0xfff00000) ∷ [])

second_root_goes_on : numbers (0 ∷ 0x40 ∷ []) (root_0 ∷ root_40 ∷ []) pools root_40 ≡ 0xe0100000 ∷ 0 ∷ 0 ∷ 0 ∷ 0 ∷ 0 ∷ 0 ∷ []
unfolding start_within items_within doubled_to
second_root_goes_on = refl

-- ---- I/O behind a bridge

abbrev io_bridge : Function
io_bridge = bridge (slot 0 1 0) 0 0x10100 [] ((0x1c, 0xf0f0) ∷ [])

abbrev io_device : Function
io_device = device (slot 1 0 0) 0 ((0x10, 1) ∷ []) ((0x10, 0xffffff01) ∷ [])

io_window_is_open_and_memory_closed : numbers host (io_bridge ∷ io_device ∷ []) pools io_bridge ≡ 0 ∷ 0 ∷ 0x1010 ∷ 0xfff0 ∷ 0 ∷ 0 ∷ 0 ∷ 0 ∷ 0 ∷ []
unfolding start_within items_within doubled_to
io_window_is_open_and_memory_closed = refl

io_bar_keeps_its_encoding : numbers host (io_bridge ∷ io_device ∷ []) pools io_device ≡ 0x1001 ∷ 0 ∷ 0 ∷ 0 ∷ 0 ∷ 0 ∷ 0 ∷ []
unfolding start_within items_within doubled_to
io_bar_keeps_its_encoding = refl

-- two pages of I/O
abbrev more_io : Function
more_io = device (slot 1 1 0) 0 ((0x10, 1) ∷ []) ((0x10, 0xfffff001) ∷ [])

io_window_of_two_pages : numbers host (io_bridge ∷ io_device ∷ more_io ∷ []) pools io_bridge ≡ 0 ∷ 0 ∷ 0x3020 ∷ 0xfff0 ∷ 0 ∷ 0 ∷ 0 ∷ 0 ∷ 0 ∷ []
unfolding start_within items_within doubled_to
io_window_of_two_pages = refl

-- upper halves of a wide I/O window become 0, closed or open
abbrev wide_io_bridge : Function
wide_io_bridge = bridge (slot 0 1 0) 0 0x10100 ((0x1c, 0x2111) ∷ (0x30, 0x00020001) ∷ []) ((0x1c, 0xf1f1) ∷ (0x30, 0xffffffff) ∷ [])

closed_wide_io : numbers host (wide_io_bridge ∷ []) pools wide_io_bridge ≡ 0 ∷ 0 ∷ 0x01f1 ∷ 0xfff0 ∷ 0 ∷ 0 ∷ 0 ∷ 0 ∷ 0 ∷ []
unfolding start_within items_within doubled_to
closed_wide_io = refl

open_wide_io : numbers host (wide_io_bridge ∷ io_device ∷ []) pools wide_io_bridge ≡ 0 ∷ 0 ∷ 0x1111 ∷ 0xfff0 ∷ 0 ∷ 0 ∷ 0 ∷ 0 ∷ 0 ∷ []
unfolding start_within items_within doubled_to
open_wide_io = refl

-- ---- a wide prefetchable BAR behind a wide window

abbrev wide_bridge : List (ℕ × ℕ) → Function
wide_bridge values = bridge (slot 0 1 0) 0 0x10100 values ((0x24, 0xfff1fff1) ∷ (0x28, 0xffffffff) ∷ (0x2c, 0xffffffff) ∷ [])

abbrev unset : Function
unset = wide_bridge ((0x24, 0x10001) ∷ [])

abbrev wide_device : Function
wide_device = device (slot 1 0 0) 0 ((0x10, 0xc) ∷ []) ((0x10, 0xf000000c) ∷ (0x14, 0xffffffff) ∷ [])

wide_window_above_4_gb : numbers host (unset ∷ wide_device ∷ []) pools unset ≡ 0 ∷ 0 ∷ 0 ∷ 0xfff0 ∷ 0xff10001 ∷ 1 ∷ 1 ∷ 0 ∷ 0 ∷ []
unfolding start_within items_within doubled_to
wide_window_above_4_gb = refl

wide_bar_above_4_gb : numbers host (unset ∷ wide_device ∷ []) pools wide_device ≡ 0xc ∷ 1 ∷ 0 ∷ 0 ∷ 0 ∷ 0 ∷ 0 ∷ []
unfolding start_within items_within doubled_to
wide_bar_above_4_gb = refl

-- 8 GB: the upper halves of base and limit differ
abbrev large_device : Function
large_device = device (slot 1 0 0) 0 ((0x10, 0xc) ∷ []) ((0x10, 0xc) ∷ (0x14, 0xfffffffe) ∷ [])

upper_halves_differ : map (numbers host (unset ∷ large_device ∷ []) (three (pool 0x1000 0xffff) (pool 0xe0000000 0xe02fffff) (pool 0x100000000 0x3ffffffff))) (unset ∷ large_device ∷ [])
    ≡ (0 ∷ 0 ∷ 0 ∷ 0xfff0 ∷ 0xfff10001 ∷ 2 ∷ 3 ∷ 0 ∷ 0 ∷ []) ∷ (0xc ∷ 2 ∷ 0 ∷ 0 ∷ 0 ∷ 0 ∷ 0 ∷ []) ∷ []
unfolding start_within items_within doubled_to
upper_halves_differ = refl

-- ---- a memory window of the least power of two

abbrev plain_memory : Function
plain_memory = bridge (slot 0 1 0) 0 0x10100 [] []

abbrev three_mb : Function
three_mb = device (slot 1 0 0) 0 [] ((0x10, 0xfff00000) ∷ (0x14, 0xffe00000) ∷ [])

abbrev four_mb_pool : Pools
four_mb_pool = three (pool 0x1000 0xffff) (pool 0xe0000000 0xe03fffff) (pool 0x100000000 0x1ffffffff)

window_of_4_mb_for_3 : map (numbers host (plain_memory ∷ three_mb ∷ []) four_mb_pool) (plain_memory ∷ three_mb ∷ [])
    ≡ (0 ∷ 0 ∷ 0 ∷ 0xe030e000 ∷ 0 ∷ 0 ∷ 0 ∷ 0 ∷ 0 ∷ []) ∷ (0xe0200000 ∷ 0xe0000000 ∷ 0 ∷ 0 ∷ 0 ∷ 0 ∷ 0 ∷ []) ∷ []
unfolding start_within items_within doubled_to
window_of_4_mb_for_3 = refl

-- ---- upper halves that were set

-- below 4 GB they become 0
abbrev low_pools : Pools
low_pools = three (pool 0x1000 0xffff) (pool 0xe0000000 0xe02fffff) (pool 0xd0000000 0xdfffffff)

abbrev was_high : Function
was_high = wide_bridge ((0x24, 0xff10001) ∷ (0x28, 1) ∷ (0x2c, 1) ∷ [])

abbrev high_device : Function
high_device = device (slot 1 0 0) 0 ((0x10, 0xc) ∷ (0x14, 1) ∷ []) ((0x10, 0xf000000c) ∷ (0x14, 0xffffffff) ∷ [])

upper_halves_become_0 : map (numbers host (was_high ∷ high_device ∷ []) low_pools) (was_high ∷ high_device ∷ [])
    ≡ (0 ∷ 0 ∷ 0 ∷ 0xfff0 ∷ 0xdff1d001 ∷ 0 ∷ 0 ∷ 0 ∷ 0 ∷ []) ∷ (0xd000000c ∷ 0 ∷ 0 ∷ 0 ∷ 0 ∷ 0 ∷ 0 ∷ []) ∷ []
unfolding start_within items_within doubled_to
upper_halves_become_0 = refl

closed_window_has_no_upper_halves : numbers host (was_high ∷ []) pools was_high ≡ 0 ∷ 0 ∷ 0 ∷ 0xfff0 ∷ 0x0001fff1 ∷ 0 ∷ 0 ∷ 0 ∷ 0 ∷ []
unfolding start_within items_within doubled_to
closed_window_has_no_upper_halves = refl

abbrev plain_bridge : Function
plain_bridge = bridge (slot 0 1 0) 0 0x10100 [] ((0x24, 0xfff0fff0) ∷ [])

closed_window_without_upper_halves : numbers host (plain_bridge ∷ []) pools plain_bridge ≡ 0 ∷ 0 ∷ 0 ∷ 0xfff0 ∷ 0x0000fff0 ∷ 0 ∷ 0 ∷ 0 ∷ 0 ∷ []
unfolding start_within items_within doubled_to
closed_window_without_upper_halves = refl

-- ---- a bridge's own BAR and ROM, and what has none

abbrev own_regions : Function
own_regions = bridge (slot 0 1 0) 0 0x10100 [] ((0x14, 0xffff0000) ∷ (0x38, 0xfff00000) ∷ [])

bridges_own_regions : numbers host (own_regions ∷ []) pools own_regions ≡ 0 ∷ 0xe0100000 ∷ 0 ∷ 0xfff0 ∷ 0 ∷ 0 ∷ 0 ∷ 0 ∷ 0xe0000000 ∷ []
unfolding start_within items_within doubled_to
bridges_own_regions = refl

-- the second BAR alone: the first register stays, and so does the one behind
abbrev second_alone : Function
second_alone = device (slot 0 1 0) 0 [] ((0x14, 0xfff00000) ∷ [])

others_stay : numbers host (second_alone ∷ []) pools second_alone ≡ 0 ∷ 0xe0000000 ∷ 0 ∷ 0 ∷ 0 ∷ 0 ∷ 0 ∷ []
unfolding start_within items_within doubled_to
others_stay = refl

-- a register that starts no BAR stays as it is
abbrev unused_set : Function
unused_set = device (slot 0 1 0) 0 ((0x18, 0x1230) ∷ []) ((0x14, 0xfff00000) ∷ [])

unused_register_stays : numbers host (unused_set ∷ []) pools unused_set ≡ 0 ∷ 0xe0000000 ∷ 0x1230 ∷ 0 ∷ 0 ∷ 0 ∷ 0 ∷ []
unfolding start_within items_within doubled_to
unused_register_stays = refl

-- planning again changes nothing
planned_bridge_again : numbers host (own_regions ∷ []) pools own_regions
    ≡ held (bridge (slot 0 1 0) 2 0x10100 ((0x14, 0xe0100000) ∷ (0x20, 0xfff0) ∷ (0x38, 0xe0000000) ∷ []) ((0x14, 0xffff0000) ∷ (0x38, 0xfff00000) ∷ []))
unfolding start_within items_within doubled_to
planned_bridge_again = refl

-- ---- Command

abbrev commanded : ℕ → List (ℕ × ℕ) → List (ℕ × ℕ) → Function
commanded c values masks = device (slot 0 1 0) c values masks

commands_of_devices : map (λ f. new_command (f ∷ []) pools f)
    (commanded 0 [] [] ∷ commanded 3 [] [] ∷ commanded 0 [] ((0x10, 0xfff00000) ∷ []) ∷ commanded 3 ((0x10, 1) ∷ []) ((0x10, 0xffffff01) ∷ [])
    ∷ commanded 0 ((0x10, 1) ∷ []) ((0x10, 0xffffff01) ∷ (0x14, 0xfff00000) ∷ []) ∷ commanded 0 [] ((0x30, 0xffff0000) ∷ []) ∷ commanded 0x0547 [] ((0x10, 0xfff00000) ∷ []) ∷ [])
    ≡ 0 ∷ 0 ∷ 2 ∷ 1 ∷ 3 ∷ 2 ∷ 0x0546 ∷ []
commands_of_devices = refl

-- a bridge with nothing behind, and with a prefetchable BAR or I/O alone
commands_of_bridges : new_command (plain_bridge ∷ []) pools plain_bridge ∷ new_command (io_bridge ∷ []) pools io_bridge ∷ new_command (unset ∷ wide_device ∷ []) pools unset ∷ new_command (io_bridge ∷ io_device ∷ []) pools io_bridge ∷ new_command (own_regions ∷ []) pools own_regions ∷ []
    ≡ 0 ∷ 0 ∷ 2 ∷ 1 ∷ 2 ∷ []
commands_of_bridges = refl
