-- What sizing leaves where it stops, which functions it is made of, and where its accesses go.
use Rattle.std.proofs.Common.{◌≡◌, ℕ, zero, suc, inl, inr, List, [], ◌∷◌, refl, true, false, arith, lit<, map, set, replicate}
use Rattle.std.proofs.lemmas.Bool.{both_ways}
use Rattle.std.proofs.lemmas.List.{get_or-set_other}
use Rattle.pci_spec.specs.Number.{number_at}
use Rattle.pci_spec.specs.Machine.{Target, number_of_bits, written}
use Rattle.pci_spec.specs.Sizing.{no_target, function_at, DiffersWithin, IsPlain, quieted, DiffersInRegisters, is_sizing_byte, IsPartlySized, IsStuck, IsSizable, is_address_register, is_looked_at, is_written_to}
use Rattle.pci_spec.proofs.Examples.Samples.{put, put_bytes, zeros, blank, slot}

-- a function with a Command, both decode bits of which can be written
abbrev with_command : ℕ → Target
with_command command = record { slot = slot 0 1 0; image = blank 0 command; writable = put_bytes ((0x04, 3) ∷ []) zeros; clearing = zeros }

-- the same, whose decode bits can't be
abbrev with_fixed : ℕ → Target
with_fixed command = record (with_command command) { writable = put_bytes ((0x04, 0xfc) ∷ []) zeros }

-- ---- the function at a slot

the_one_at_its_slot : function_at (with_command 3 ∷ []) (slot 0 1 0) ≡ with_command 3
the_one_at_its_slot = refl

an_empty_one_elsewhere : function_at (with_command 3 ∷ []) (slot 0 1 1) ≡ no_target
an_empty_one_elsewhere = refl

-- ---- images that differ

abbrev before : List ℕ
before = blank 0 3

last_of_four_bytes_may_differ : DiffersWithin 0x10 4 before (set before 0x13 0xff)
last_of_four_bytes_may_differ = record {
  full = refl;
  outside = λ place out. get_or-set_other before 0x13 place 0xff 0 (λ same. let no : ⊥ = omega (arith, out, same) in no);
}

first_of_four_bytes_may_differ : DiffersWithin 0x10 4 before (set before 0x10 0xff)
first_of_four_bytes_may_differ = record {
  full = refl;
  outside = λ place out. get_or-set_other before 0x10 place 0xff 0 (λ same. let no : ⊥ = omega (arith, out, same) in no);
}

byte_behind_them_may_not : DiffersWithin 0x10 4 before (set before 0x14 0xff) → ⊥
byte_behind_them_may_not is = let e : 0xff ≡ 0 = is.outside 0x14 (inr (omega arith)) in let no : ⊥ = omega (arith, e) in no

byte_before_them_may_not : DiffersWithin 0x10 4 before (set before 0x0f 0xff) → ⊥
byte_before_them_may_not is = let e : 0xff ≡ 0 = is.outside 0x0f (inl (omega arith)) in let no : ⊥ = omega (arith, e) in no

their_number_may_not : DiffersWithin 0x10 4 before (0 ∷ before) → ⊥
their_number_may_not is = let full : 257 ≡ 256 = is.full in let no : ⊥ = omega (arith, full) in no

registers_of_a_device_may_differ_alone : DiffersInRegisters before (set before 0x28 0xff) → ⊥
registers_of_a_device_may_differ_alone is = let e : 0xff ≡ 0 = is.outside 0x28 refl in let no : ⊥ = omega (arith, e) in no

command_may_not_differ : DiffersInRegisters before (set before 0x04 0) → ⊥
command_may_not_differ is = let e : 0 ≡ 3 = is.outside 0x04 refl in let no : ⊥ = omega (arith, e) in no

bus_numbers_of_a_bridge_may_not_differ : DiffersInRegisters (blank 1 0) (set (blank 1 0) 0x19 1) → ⊥
bus_numbers_of_a_bridge_may_not_differ is = let e : 1 ≡ 0 = is.outside 0x19 refl in let no : ⊥ = omega (arith, e) in no

-- ---- bits that a one clears

abbrev with_status : Target
with_status = record (with_command 3) { clearing = put_bytes ((0x07, 0xf9) ∷ []) zeros }

command_is_plain : IsPlain with_status 0x04 3
command_is_plain zero low high = absurd (let no : ⊥ = omega (arith, low) in no)
command_is_plain (suc zero) low high = absurd (let no : ⊥ = omega (arith, low) in no)
command_is_plain (suc (suc zero)) low high = absurd (let no : ⊥ = omega (arith, low) in no)
command_is_plain (suc (suc (suc zero))) low high = absurd (let no : ⊥ = omega (arith, low) in no)
command_is_plain (suc (suc (suc (suc zero)))) low high = refl
command_is_plain (suc (suc (suc (suc (suc zero))))) low high = refl
command_is_plain (suc (suc (suc (suc (suc (suc zero)))))) low high = refl
command_is_plain (suc (suc (suc (suc (suc (suc (suc n))))))) low high = absurd (let no : ⊥ = omega (arith, high) in no)

command_with_status_is_not : IsPlain with_status 0x04 4 → ⊥
command_with_status_is_not plain = let e : 0xf9 ≡ 0 = plain 7 (omega arith) (omega arith) in let no : ⊥ = omega (arith, e) in no

status_is_not : IsPlain with_status 0x07 1 → ⊥
status_is_not plain = let e : 0xf9 ≡ 0 = plain 7 (omega arith) (omega arith) in let no : ⊥ = omega (arith, e) in no

-- ---- what stands meanwhile

decode_bits_are_cleared_alone : number_at (quieted (record (with_command 0xf5a7) { writable = replicate 256 0xff })) 0x04 4 ≡ 0xf5a4
unfolding number_of_bits written
decode_bits_are_cleared_alone = refl

decode_bits_that_cannot_be_written_stay : number_at (quieted (with_fixed 7)) 0x04 2 ≡ 7
unfolding number_of_bits written
decode_bits_that_cannot_be_written_stay = refl

bytes_of_a_device : map (is_sizing_byte 0) (3 ∷ 4 ∷ 5 ∷ 6 ∷ 0x0f ∷ 0x10 ∷ 0x27 ∷ 0x28 ∷ 0x30 ∷ 0x33 ∷ 0x34 ∷ [])
    ≡ false ∷ true ∷ true ∷ false ∷ false ∷ true ∷ true ∷ false ∷ true ∷ true ∷ false ∷ []
bytes_of_a_device = refl

bytes_of_a_bridge : map (is_sizing_byte 1) (4 ∷ 5 ∷ 6 ∷ 0x17 ∷ 0x18 ∷ 0x1b ∷ 0x1c ∷ 0x1d ∷ 0x1e ∷ 0x1f ∷ 0x20 ∷ 0x33 ∷ 0x34 ∷ 0x38 ∷ 0x3b ∷ 0x3c ∷ [])
    ≡ true ∷ true ∷ false ∷ true ∷ false ∷ false ∷ true ∷ true ∷ false ∷ false ∷ true ∷ true ∷ false ∷ true ∷ true ∷ false ∷ []
bytes_of_a_bridge = refl

no_partly_sized_function_decodes : IsPartlySized (with_command 3) (blank 0 1) → ⊥
no_partly_sized_function_decodes is = both_ways true (is.quiet 0 (lit< tt) refl) refl

nor_does_it_decode_memory_alone : IsPartlySized (with_command 3) (blank 0 2) → ⊥
nor_does_it_decode_memory_alone is = both_ways true (is.quiet 1 (lit< tt) refl) refl

other_bits_of_command_stay : IsPartlySized (with_command 7) (blank 0 0) → ⊥
other_bits_of_command_stay is = let e : 0 ≡ 1 = is.rest_of_command 2 (omega arith) in let no : ⊥ = omega (arith, e) in no

interrupt_line_stays : IsPartlySized (with_command 3) (set (blank 0 0) 0x3c 0xff) → ⊥
interrupt_line_stays is = let e : 0xff ≡ 0 = is.others 0x3c refl in let no : ⊥ = omega (arith, e) in no

-- ---- which functions are sized

set_and_fixed_is_stuck : IsStuck (with_fixed 2)
set_and_fixed_is_stuck = (1, lit< tt, refl, refl)

clear_and_fixed_is_not : IsStuck (with_fixed 0xfc) → ⊥
clear_and_fixed_is_not (zero, less, on, fixed) = both_ways false refl on
clear_and_fixed_is_not (suc zero, less, on, fixed) = both_ways false refl on
clear_and_fixed_is_not (suc (suc i), less, on, fixed) = let no : ⊥ = omega (arith, less) in no

free_is_not_stuck : (command : ℕ) → IsStuck (with_command command) → ⊥
free_is_not_stuck command (zero, less, on, fixed) = both_ways true fixed refl
free_is_not_stuck command (suc zero, less, on, fixed) = both_ways true fixed refl
free_is_not_stuck command (suc (suc i), less, on, fixed) = let no : ⊥ = omega (arith, less) in no

free_function_is_sizable : IsSizable (with_command 3 ∷ []) (slot 0 1 0)
free_function_is_sizable = record { there = refl; vendor = refl; header = refl; free = free_is_not_stuck 3 }

stuck_function_is_not : IsSizable (with_fixed 2 ∷ []) (slot 0 1 0) → ⊥
stuck_function_is_not is = is.free set_and_fixed_is_stuck

function_that_is_not_there_is_not : IsSizable (with_command 3 ∷ []) (slot 0 1 1) → ⊥
function_that_is_not_there_is_not is = both_ways false refl is.there

function_without_a_vendor_is_not : IsSizable (record (with_command 3) { image = put 2 0 0xffff before } ∷ []) (slot 0 1 0) → ⊥
function_without_a_vendor_is_not is = both_ways true is.vendor refl

function_of_another_layout_is_not : IsSizable (record (with_command 3) { image = blank 2 0 } ∷ []) (slot 0 1 0) → ⊥
function_of_another_layout_is_not is = both_ways true is.header refl

-- ---- where its accesses go

registers_of_a_device : map (is_address_register 0) (0x04 ∷ 0x0c ∷ 0x10 ∷ 0x12 ∷ 0x14 ∷ 0x24 ∷ 0x28 ∷ 0x30 ∷ 0x38 ∷ [])
    ≡ false ∷ false ∷ true ∷ false ∷ true ∷ true ∷ false ∷ true ∷ false ∷ []
registers_of_a_device = refl

registers_of_a_bridge : map (is_address_register 1) (0x04 ∷ 0x10 ∷ 0x14 ∷ 0x18 ∷ 0x1c ∷ 0x1e ∷ 0x20 ∷ 0x24 ∷ 0x28 ∷ 0x2c ∷ 0x30 ∷ 0x38 ∷ [])
    ≡ false ∷ true ∷ true ∷ false ∷ true ∷ false ∷ true ∷ true ∷ true ∷ true ∷ true ∷ true ∷ []
registers_of_a_bridge = refl

looked_at_first : map is_looked_at (0 ∷ 1 ∷ 2 ∷ 4 ∷ 6 ∷ 0x0d ∷ 0x0e ∷ 0x10 ∷ []) ≡ true ∷ false ∷ false ∷ true ∷ false ∷ false ∷ true ∷ false ∷ []
looked_at_first = refl

written_to_then : map (is_written_to 0) (0 ∷ 4 ∷ 6 ∷ 0x0e ∷ 0x10 ∷ 0x24 ∷ 0x28 ∷ 0x30 ∷ 0x38 ∷ []) ≡ false ∷ true ∷ false ∷ false ∷ true ∷ true ∷ false ∷ true ∷ false ∷ []
written_to_then = refl
