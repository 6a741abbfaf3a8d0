-- The register machine: which bits a write sets or clears, and what sizing finds.
use Rattle.std.proofs.Common.{◌≡◌, List, [], ◌∷◌, refl, true, false, map, replicate, set}
use Rattle.pci_spec.specs.Number.{number_at}
use Rattle.pci_spec.specs.System.{Function}
use Rattle.pci_spec.specs.Machine.{Target, number_of_bits, writable_bits, clearing_bits, written, written_bit, target_of, after_writes, system_after, sized, sizing_ones}
use Rattle.pci_spec.proofs.Examples.Samples.{put, puts, put_bytes, zeros, blank, on_device, on_bridge, read_backs, slot, device, bridge, write}

-- ---- the writable bits

device_alone : writable_bits (on_device []) (read_backs []) ≡ put_bytes ((0x04, 0x47) ∷ (0x05, 0x05) ∷ (0x3c, 0xff) ∷ []) zeros
unfolding number_of_bits writable_bits
device_alone = refl

-- BARs without their encodings, an upper half, and a ROM with its enable bit
device_with_bars_and_a_rom :
    writable_bits (on_device []) (read_backs ((0x10, 0xfff00008) ∷ (0x14, 0xf000000c) ∷ (0x18, 0xfffffff4) ∷ (0x1c, 0xffe1) ∷ (0x24, 0xfffffffd) ∷ (0x30, 0xfffff800) ∷ []))
    ≡ puts ((0x04, 0x0547) ∷ (0x10, 0xfff00000) ∷ (0x14, 0xf0000000) ∷ (0x18, 0xfffffff4) ∷ (0x1c, 0xffe0) ∷ (0x24, 0xfffffffc) ∷ (0x30, 0xfffff801) ∷ (0x3c, 0xff) ∷ []) zeros
unfolding number_of_bits writable_bits
device_with_bars_and_a_rom = refl

bridge_alone : writable_bits (on_bridge []) (read_backs ((0x20, 0xfff0fff0) ∷ [])) ≡ puts ((0x04, 0x0547) ∷ (0x18, 0x00ffffff) ∷ (0x20, 0xfff0fff0) ∷ (0x3c, 0xff) ∷ []) zeros
unfolding number_of_bits writable_bits
bridge_alone = refl

-- windows without their low nibbles, upper halves, and a ROM at 38h
bridge_with_everything :
    writable_bits (on_bridge []) (read_backs ((0x14, 0xfff00008) ∷ (0x1c, 0xf1f1) ∷ (0x20, 0xfff0fff0) ∷ (0x24, 0xfff1fff1) ∷ (0x28, 0xffffffff) ∷ (0x2c, 0xffffffff) ∷ (0x30, 0xffffffff) ∷ (0x38, 0xffff0000) ∷ []))
    ≡ puts ((0x04, 0x0547) ∷ (0x14, 0xfff00000) ∷ (0x18, 0x00ffffff) ∷ (0x1c, 0xf0f0) ∷ (0x20, 0xfff0fff0) ∷ (0x24, 0xfff0fff0) ∷ (0x28, 0xffffffff) ∷ (0x2c, 0xffffffff) ∷ (0x30, 0xffffffff) ∷ (0x38, 0xffff0001) ∷ (0x3c, 0xff) ∷ []) zeros
unfolding number_of_bits writable_bits
bridge_with_everything = refl

status_of_a_device_is_cleared_by_ones : clearing_bits (on_device []) ≡ put_bytes ((0x07, 0xf9) ∷ []) zeros
unfolding number_of_bits clearing_bits
status_of_a_device_is_cleared_by_ones = refl

both_status_registers_of_a_bridge_are : clearing_bits (on_bridge []) ≡ put_bytes ((0x07, 0xf9) ∷ (0x1f, 0xf9) ∷ []) zeros
unfolding number_of_bits clearing_bits
both_status_registers_of_a_bridge_are = refl

-- ---- writes

abbrev endpoint : Function
endpoint = record { slot = slot 0 0 0; image = put 2 6 0xf900 (puts ((0x10, 0xfe000000) ∷ []) (blank 0 3)); probe = read_backs ((0x10, 0xfff00000) ∷ []) }

writable_bit_takes_the_datum : written_bit 1 0 0 1 0 ∷ written_bit 1 0 1 0 0 ∷ [] ≡ true ∷ false ∷ []
writable_bit_takes_the_datum = refl

one_clears_a_clearing_bit : written_bit 0 1 1 1 0 ∷ written_bit 0 1 1 0 0 ∷ written_bit 0 1 0 1 0 ∷ [] ≡ false ∷ true ∷ false ∷ []
one_clears_a_clearing_bit = refl

other_bit_stays : written_bit 0 0 1 0 0 ∷ written_bit 0 0 0 1 0 ∷ [] ≡ true ∷ false ∷ []
other_bit_stays = refl

command_takes_six_bits : number_at (written (target_of endpoint) 0x04 2 0xffff) 0x04 4 ≡ 0xf9000547
unfolding number_of_bits writable_bits clearing_bits written sized
command_takes_six_bits = refl

two_bytes_of_command_leave_status : number_at (written (target_of endpoint) 0x04 2 0) 0x04 4 ≡ 0xf9000000
unfolding number_of_bits writable_bits clearing_bits written sized
two_bytes_of_command_leave_status = refl

four_bytes_of_zero_leave_status : number_at (written (target_of endpoint) 0x04 4 0) 0x04 4 ≡ 0xf9000000
unfolding number_of_bits writable_bits clearing_bits written sized
four_bytes_of_zero_leave_status = refl

four_bytes_of_ones_clear_status : number_at (written (target_of endpoint) 0x04 4 0xffffffff) 0x04 4 ≡ 0x00000547
unfolding number_of_bits writable_bits clearing_bits written sized
four_bytes_of_ones_clear_status = refl

one_bit_of_status_is_cleared : number_at (written (target_of endpoint) 0x06 2 0x8000) 0x04 4 ≡ 0x79000003
unfolding number_of_bits writable_bits clearing_bits written sized
one_bit_of_status_is_cleared = refl

one_byte_is_written_alone : written (target_of endpoint) 0x13 1 0xff ≡ set endpoint.image 0x13 0xff
unfolding number_of_bits writable_bits clearing_bits written sized
one_byte_is_written_alone = refl

low_byte_of_a_mask_stays : written (target_of endpoint) 0x10 1 0xff ≡ endpoint.image
unfolding number_of_bits writable_bits clearing_bits written sized
low_byte_of_a_mask_stays = refl

vendor_stays : written (target_of endpoint) 0x00 4 0 ≡ endpoint.image
unfolding number_of_bits writable_bits clearing_bits written sized
vendor_stays = refl

value_is_taken_low_byte_first : number_at (written (target_of endpoint) 0x10 4 0x12345678) 0x10 4 ≡ 0x12300000
unfolding number_of_bits writable_bits clearing_bits written sized
value_is_taken_low_byte_first = refl

interrupt_line_is_writable_and_its_pin_not : number_at (written (target_of endpoint) 0x3c 2 0xffff) 0x3c 2 ≡ 0x00ff
unfolding number_of_bits writable_bits clearing_bits written sized
interrupt_line_is_writable_and_its_pin_not = refl

secondary_status_is_cleared : number_at (written (target_of (bridge (slot 0 1 0) 0 0x10100 ((0x1c, 0xf9200000) ∷ []) [])) 0x1c 4 0xffffffff) 0x1c 4 ≡ 0x00200000
unfolding number_of_bits writable_bits clearing_bits written sized
secondary_status_is_cleared = refl

bus_numbers_are_writable : number_at (written (target_of (bridge (slot 0 1 0) 0 0x10100 [] [])) 0x18 4 0xffffffff) 0x18 4 ≡ 0x00ffffff
unfolding number_of_bits writable_bits clearing_bits written sized
bus_numbers_are_writable = refl

-- a write reaches the function at its slot alone
abbrev first_device : Function
first_device = device (slot 0 1 0) 0 [] ((0x10, 0xfff00000) ∷ [])

abbrev second_device : Function
second_device = device (slot 0 2 0) 0 [] ((0x10, 0xfff00000) ∷ [])

write_to_one_of_two : system_after (first_device ∷ second_device ∷ []) (write (slot 0 2 0) 0x10 4 0xe0000000 ∷ []) ≡ first_device ∷ device (slot 0 2 0) 0 ((0x10, 0xe0000000) ∷ []) ((0x10, 0xfff00000) ∷ []) ∷ []
unfolding number_of_bits writable_bits clearing_bits written sized
write_to_one_of_two = refl

write_to_a_slot_that_is_not_there : system_after (first_device ∷ []) (write (slot 0 2 0) 0x10 4 0xe0000000 ∷ []) ≡ first_device ∷ []
unfolding number_of_bits writable_bits clearing_bits written sized
write_to_a_slot_that_is_not_there = refl

one_write_after_another : system_after (first_device ∷ []) (write (slot 0 1 0) 0x10 4 0xe0000000 ∷ write (slot 0 1 0) 0x12 2 0xe010 ∷ []) ≡ device (slot 0 1 0) 0 ((0x10, 0xe0100000) ∷ []) ((0x10, 0xfff00000) ∷ []) ∷ []
unfolding number_of_bits writable_bits clearing_bits written sized
one_write_after_another = refl

ports_own_bits_count : map (λ (t : Target). t.image) (after_writes (record { slot = slot 0 1 0; image = zeros; writable = set zeros 0 0x0f; clearing = zeros } ∷ []) (write (slot 0 1 0) 0 1 0xff ∷ [])) ≡ set zeros 0 0x0f ∷ []
unfolding number_of_bits writable_bits clearing_bits written sized
ports_own_bits_count = refl

-- ---- sizing

ones_of_a_device : map (sizing_ones 0) (0x10 ∷ 0x1c ∷ 0x30 ∷ []) ≡ 0xffffffff ∷ 0xffffffff ∷ 0xfffff800 ∷ []
ones_of_a_device = refl

ones_of_a_bridge : map (sizing_ones 1) (0x10 ∷ 0x1c ∷ 0x20 ∷ 0x30 ∷ 0x38 ∷ []) ≡ 0xffffffff ∷ 0xffff ∷ 0xffffffff ∷ 0xffffffff ∷ 0xfffff800 ∷ []
ones_of_a_bridge = refl

device_shows_its_probe : sized (target_of endpoint) ≡ endpoint.probe
unfolding number_of_bits writable_bits clearing_bits written sized
device_shows_its_probe = refl

abbrev full_device : Function
full_device =
    device (slot 0 1 0) 2 ((0x10, 0xe0000008) ∷ (0x14, 0xc) ∷ (0x18, 2) ∷ (0x1c, 1) ∷ (0x30, 0xfd000001) ∷ [])
    ((0x10, 0xfff00008) ∷ (0x14, 0xc) ∷ (0x18, 0xfffffffe) ∷ (0x1c, 0xff01) ∷ (0x30, 0xffff0000) ∷ [])

abbrev full_bridge : Function
full_bridge =
    bridge (slot 0 1 0) 3 0x10100 ((0x10, 4) ∷ (0x1c, 0xf1e1) ∷ (0x20, 0xe010e000) ∷ (0x24, 0x0001fff1) ∷ (0x30, 0x10001) ∷ (0x38, 1) ∷ [])
    ((0x10, 0xfff00004) ∷ (0x14, 0xffffffff) ∷ (0x1c, 0xf1f1) ∷ (0x24, 0xfff1fff1) ∷ (0x28, 0xffffffff) ∷ (0x2c, 0xffffffff) ∷ (0x30, 0xffffffff) ∷ (0x38, 0xfffff800) ∷ [])

full_device_shows_its_probe : sized (target_of full_device) ≡ full_device.probe
unfolding number_of_bits writable_bits clearing_bits written sized
full_device_shows_its_probe = refl

full_bridge_shows_its_probe : sized (target_of full_bridge) ≡ full_bridge.probe
unfolding number_of_bits writable_bits clearing_bits written sized
full_bridge_shows_its_probe = refl

-- a port whose bits are all writable
bytes_outside_the_address_registers_are_0 : sized record { slot = slot 0 0 0; image = replicate 256 0x80; writable = replicate 256 0xff; clearing = zeros } ≡ puts ((0x10, 0xffffffff) ∷ (0x14, 0xffffffff) ∷ (0x18, 0xffffffff) ∷ (0x1c, 0xffffffff) ∷ (0x20, 0xffffffff) ∷ (0x24, 0xffffffff) ∷ (0x30, 0xfffff800) ∷ []) zeros
unfolding number_of_bits writable_bits clearing_bits written sized
bytes_outside_the_address_registers_are_0 = refl

-- after Command was cleared and ones were written to the first BAR
abbrev half_sized : List Target
half_sized = after_writes (target_of endpoint ∷ []) (write (slot 0 0 0) 0x04 2 0 ∷ write (slot 0 0 0) 0x10 4 0xffffffff ∷ [])

stopped_in_the_middle_of_sizing : map (λ (t : Target). t.image) half_sized ≡ put 2 6 0xf900 (puts ((0x10, 0xfff00000) ∷ []) (blank 0 0)) ∷ []
unfolding number_of_bits writable_bits clearing_bits written sized
stopped_in_the_middle_of_sizing = refl

-- ---- writes behind a port, and bits that are writable and cleared by ones

ports_writes_come_one_after_another : map (λ (t : Target). t.image) (after_writes (record { slot = slot 0 1 0; image = zeros; writable = set zeros 0 0xff; clearing = zeros } ∷ []) (write (slot 0 1 0) 0 1 1 ∷ write (slot 0 1 0) 0 1 2 ∷ [])) ≡ set zeros 0 2 ∷ []
unfolding number_of_bits writable_bits clearing_bits written
ports_writes_come_one_after_another = refl

-- no register has such a bit
writable_goes_first : written_bit 1 1 0 1 0 ≡ true
writable_goes_first = refl
