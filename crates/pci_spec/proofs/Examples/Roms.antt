-- Expansion ROMs: their rule, what they decode to, and when they answer.
use Rattle.std.proofs.Common.{◌≡◌, ℕ, [], ◌∷◌, refl, Bool, true, false, Option, None, Some}
use Rattle.pci_spec.specs.Number.{each_from, some_from}
use Rattle.pci_spec.specs.Rom.{breaks_rom_rule, has_rom, rom_is_on}
use Rattle.pci_spec.specs.Decoded.{DecodedRom, decoded_rom, rom_size}
use Rattle.pci_spec.proofs.Examples.Samples.{on_device, on_bridge, read_backs, range}

-- ---- the rule

abbrev breaks : ℕ → ℕ → Bool
breaks value mask = breaks_rom_rule (on_device ((0x30, value) ∷ [])) (read_backs ((0x30, mask) ∷ []))

absent : breaks 0 0 ≡ false
unfolding each_from some_from
absent = refl

of_2_kb : breaks 0 0xfffff800 ≡ false
unfolding each_from some_from
of_2_kb = refl

of_1_kb : breaks 0 0xfffffc00 ≡ true
unfolding each_from some_from
of_1_kb = refl

of_16_mb : breaks 0 0xff000000 ≡ false
unfolding each_from some_from
of_16_mb = refl

of_32_mb : breaks 0 0xfe000000 ≡ true
unfolding each_from some_from
of_32_mb = refl

its_value_may_have_the_enable_bit : breaks 0xfe000001 0xfffff800 ≡ false
unfolding each_from some_from
its_value_may_have_the_enable_bit = refl

its_value_has_no_other_low_bit : breaks 0xfe000002 0xfffff800 ≡ true
unfolding each_from some_from
its_value_has_no_other_low_bit = refl

its_value_has_no_other_bit_outside : breaks 0xfe000800 0xfffff000 ≡ true
unfolding each_from some_from
its_value_has_no_other_bit_outside = refl

its_read_back_has_no_enable_bit : breaks 0xfe000001 0xfffff801 ≡ true
unfolding each_from some_from
its_read_back_has_no_enable_bit = refl

hole : breaks 0 0xfff0f800 ≡ true
unfolding each_from some_from
hole = refl

run_that_ends_at_bit_30 : breaks 0 0x7ffff800 ≡ true
unfolding each_from some_from
run_that_ends_at_bit_30 = refl

value_without_a_read_back : breaks 0xfe000000 0 ≡ true
unfolding each_from some_from
value_without_a_read_back = refl

enable_bit_without_a_read_back : breaks 1 0 ≡ true
unfolding each_from some_from
enable_bit_without_a_read_back = refl

on_a_bridge_it_stands_at_38 : breaks_rom_rule (on_bridge ((0x38, 0xfe000000) ∷ [])) (read_backs ((0x30, 0xffffffff) ∷ (0x38, 0xfffff800) ∷ [])) ≡ false
unfolding each_from some_from
on_a_bridge_it_stands_at_38 = refl

-- ---- what it decodes to

abbrev rom : ℕ → Bool → ℕ → ℕ → Option DecodedRom
rom register on first last = Some record { register = register; on = on; range = range first last }

enabled_rom_of_2_kb : decoded_rom (on_device ((0x30, 0xfe000001) ∷ [])) (read_backs ((0x30, 0xfffff800) ∷ [])) ≡ rom 0x30 true 0xfe000000 0xfe0007ff
enabled_rom_of_2_kb = refl

disabled_rom_of_64_kb : decoded_rom (on_device ((0x30, 0xe0010000) ∷ [])) (read_backs ((0x30, 0xffff0000) ∷ [])) ≡ rom 0x30 false 0xe0010000 0xe001ffff
disabled_rom_of_64_kb = refl

rom_at_0 : decoded_rom (on_device []) (read_backs ((0x30, 0xff000000) ∷ [])) ≡ rom 0x30 false 0 0xffffff
rom_at_0 = refl

rom_of_a_bridge : decoded_rom (on_bridge ((0x38, 0xfe000001) ∷ [])) (read_backs ((0x30, 0xffffffff) ∷ (0x38, 0xfffff800) ∷ [])) ≡ rom 0x38 true 0xfe000000 0xfe0007ff
rom_of_a_bridge = refl

no_rom : decoded_rom (on_device []) (read_backs []) ≡ None
no_rom = refl

io_upper_halves_of_a_bridge_are_none : decoded_rom (on_bridge ((0x30, 0x10001) ∷ [])) (read_backs ((0x30, 0xffffffff) ∷ [])) ≡ None
io_upper_halves_of_a_bridge_are_none = refl

size_is_that_of_the_lowest_one : rom_size (on_device []) (read_backs ((0x30, 0xffff0000) ∷ [])) ≡ 0x10000
size_is_that_of_the_lowest_one = refl

there_by_its_value_alone_too : has_rom (on_device ((0x30, 1) ∷ [])) (read_backs []) ≡ true
there_by_its_value_alone_too = refl

on_by_bit_0 : rom_is_on (on_device ((0x30, 0xfe000001) ∷ [])) ∷ rom_is_on (on_device ((0x30, 0xfe000800) ∷ [])) ∷ [] ≡ true ∷ false ∷ []
on_by_bit_0 = refl
