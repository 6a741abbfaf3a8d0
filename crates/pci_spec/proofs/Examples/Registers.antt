-- Where the registers stand, and how slots are ordered.
use Rattle.std.proofs.Common.{◌≡◌, ℕ, List, [], ◌∷◌, refl, true, false, map, arith, lit<, take, ◌<◌}
use Rattle.std.specs.List.{range_with_len}
use Rattle.pci_spec.specs.Number.{number_at, has_bit, lowest_one, each_from, some_from, IsImage}
use Rattle.pci_spec.specs.Slot.{IsSlot, slot_number, same_slot}
use Rattle.pci_spec.specs.Header.{vendor_id, command, status, class_code, layout, primary_bus, secondary_bus, subordinate_bus, bridge_control, bar_count, bar_register, rom_register, address_registers}
use Rattle.pci_spec.specs.Bar.{bar_at}
use Rattle.pci_spec.specs.Rom.{rom_at}
use Rattle.pci_spec.specs.Capability.{pointer_at}
use Rattle.pci_spec.proofs.Examples.Samples.{put_bytes, zeros, slot}

-- byte n is n
abbrev counted : List ℕ
counted = range_with_len 0 256

low_byte_first : number_at counted 0x10 4 ≡ 0x13121110
low_byte_first = refl

one_byte : number_at counted 0xff 1 ≡ 0xff
one_byte = refl

vendor_is_at_00 : vendor_id counted ≡ 0x0100
vendor_is_at_00 = refl

command_is_at_04 : command counted ≡ 0x0504
command_is_at_04 = refl

status_is_at_06 : status counted ≡ 0x0706
status_is_at_06 = refl

class_is_at_09 : class_code counted ≡ 0x0b0a09
class_is_at_09 = refl

bridge_class_has_its_base_class_first : class_code (put_bytes ((0x0b, 6) ∷ (0x0a, 4) ∷ (0x09, 1) ∷ []) zeros) ≡ 0x060401
bridge_class_has_its_base_class_first = refl

layout_is_at_0e : layout counted ≡ 0x0e
layout_is_at_0e = refl

layout_has_no_multi_function_bit : layout (put_bytes ((0x0e, 0x81) ∷ []) zeros) ≡ 1
layout_has_no_multi_function_bit = refl

buses_are_at_18 : primary_bus counted ∷ secondary_bus counted ∷ subordinate_bus counted ∷ [] ≡ 0x18 ∷ 0x19 ∷ 0x1a ∷ []
buses_are_at_18 = refl

bridge_control_is_at_3e : bridge_control counted ≡ 0x3f3e
bridge_control_is_at_3e = refl

six_bars_and_two_on_a_bridge : bar_count 0 ∷ bar_count 1 ∷ [] ≡ 6 ∷ 2 ∷ []
six_bars_and_two_on_a_bridge = refl

bars_are_at_10_to_24 : map bar_register (range_with_len 0 6) ≡ 0x10 ∷ 0x14 ∷ 0x18 ∷ 0x1c ∷ 0x20 ∷ 0x24 ∷ []
bars_are_at_10_to_24 = refl

bar_has_four_bytes : bar_at counted 1 ≡ 0x17161514
bar_has_four_bytes = refl

rom_is_at_30_and_at_38_on_a_bridge : rom_register 0 ∷ rom_register 1 ∷ [] ≡ 0x30 ∷ 0x38 ∷ []
rom_is_at_30_and_at_38_on_a_bridge = refl

rom_has_four_bytes : rom_at (put_bytes ((0x0e, 1) ∷ []) zeros) counted ≡ 0x3b3a3938
rom_has_four_bytes = refl

pointer_is_without_its_low_bits : pointer_at counted 0x37 ≡ 0x34
pointer_is_without_its_low_bits = refl

-- ---- the registers that sizing, comparing and planning access

of_a_device : address_registers 0 ≡ (0x10, 4) ∷ (0x14, 4) ∷ (0x18, 4) ∷ (0x1c, 4) ∷ (0x20, 4) ∷ (0x24, 4) ∷ (0x30, 4) ∷ []
of_a_device = refl

of_a_bridge : address_registers 1 ≡ (0x10, 4) ∷ (0x14, 4) ∷ (0x1c, 2) ∷ (0x20, 4) ∷ (0x24, 4) ∷ (0x28, 4) ∷ (0x2c, 4) ∷ (0x30, 4) ∷ (0x38, 4) ∷ []
of_a_bridge = refl

-- ---- bits

bit_zero_is_the_lowest : has_bit 6 0 ∷ has_bit 6 1 ∷ has_bit 6 2 ∷ has_bit 6 3 ∷ [] ≡ false ∷ true ∷ true ∷ false ∷ []
bit_zero_is_the_lowest = refl

lowest_one_from_a_bit_upward : lowest_one 0 0xfff1 ∷ lowest_one 2 0xfff1 ∷ lowest_one 0 0 ∷ [] ≡ 0 ∷ 4 ∷ 64 ∷ []
lowest_one_from_a_bit_upward = refl

each_of_four_and_none_more : each_from 3 4 (λ n. has_bit 0x78 n) ∷ each_from 3 5 (λ n. has_bit 0x78 n) ∷ each_from 2 4 (λ n. has_bit 0x78 n) ∷ [] ≡ true ∷ false ∷ false ∷ []
unfolding each_from
each_of_four_and_none_more = refl

some_of_four_and_none_more : some_from 3 4 (λ n. has_bit 0x40 n) ∷ some_from 2 4 (λ n. has_bit 0x40 n) ∷ some_from 7 4 (λ n. has_bit 0x40 n) ∷ [] ≡ true ∷ false ∷ false ∷ []
unfolding some_from
some_of_four_and_none_more = refl

-- ---- slots

slots_by_bus_then_device_then_function : slot_number (slot 0 0 7) ∷ slot_number (slot 0 1 0) ∷ slot_number (slot 0 31 7) ∷ slot_number (slot 1 0 0) ∷ slot_number (slot 255 31 7) ∷ [] ≡ 7 ∷ 8 ∷ 255 ∷ 256 ∷ 65535 ∷ []
slots_by_bus_then_device_then_function = refl

slots_are_same_in_all_three_numbers : same_slot (slot 1 2 3) (slot 1 2 3) ∷ same_slot (slot 1 2 3) (slot 0 2 3) ∷ same_slot (slot 1 2 3) (slot 1 0 3) ∷ same_slot (slot 1 2 3) (slot 1 2 0) ∷ [] ≡ true ∷ false ∷ false ∷ false ∷ []
slots_are_same_in_all_three_numbers = refl

last_slot_of_all : IsSlot (slot 255 31 7)
last_slot_of_all = (lit< tt, lit< tt, lit< tt)

no_bus_256 : IsSlot (slot 256 0 0) → ⊥
no_bus_256 h = let less = h.0 in omega (arith, less)

no_device_32 : IsSlot (slot 0 32 0) → ⊥
no_device_32 h = let less = h.1 in omega (arith, less)

no_function_8 : IsSlot (slot 0 0 8) → ⊥
no_function_8 h = let less = h.2 in omega (arith, less)

-- ---- images

no_image_of_255_bytes : IsImage (take 255 zeros) → ⊥
no_image_of_255_bytes image = let full = image.full in omega (arith, full)

no_byte_of_256 : IsImage (put_bytes ((0x40, 256) ∷ []) zeros) → ⊥
no_byte_of_256 image = let small : 256 < 256 = image.bytes 0x40 in omega (arith, small)
