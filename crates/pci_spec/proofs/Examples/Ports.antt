-- The functions behind a port, the accesses that it takes, and what it shows.
use Rattle.std.proofs.Common.{◌≡◌, ℕ, List, [], ◌∷◌, refl, true, false, None, Some, arith, map, sym, ◌∙◌, ap, set}
use Rattle.std.proofs.lemmas.Option.{same_Some}
use Rattle.std.proofs.lemmas.Bool.{both_ways}
use Rattle.pci_spec.specs.Number.{number_at}
use Rattle.pci_spec.specs.Slot.{Slot}
use Rattle.pci_spec.specs.Machine.{Target}
use Rattle.pci_spec.specs.Port.{target_at, has_function, is_access, fits, ShowsNumber, is_status_byte, IsTarget, IsLawful, with_image}
use Rattle.pci_spec.proofs.Examples.Samples.{put_bytes, puts, zeros, blank, slot}

-- a function with an image, whose status bits are cleared by ones
abbrev at_slot : Slot → List ℕ → Target
at_slot s image = record { slot = s; image = image; writable = put_bytes ((0x04, 0x47) ∷ []) zeros; clearing = put_bytes ((0x07, 0xf9) ∷ []) zeros }

abbrev first : Target
first = at_slot (slot 0 1 0) (puts ((0x10, 0x12345678) ∷ []) (blank 0 3))

abbrev second : Target
second = at_slot (slot 0 2 0) (blank 1 0)

abbrev both : List Target
both = first ∷ second ∷ []

-- ---- which functions are there

each_at_its_slot : map (target_at both) (slot 0 1 0 ∷ slot 0 2 0 ∷ []) ≡ Some first ∷ Some second ∷ []
each_at_its_slot = refl

none_at_other_slots : map (target_at both) (slot 1 1 0 ∷ slot 0 3 0 ∷ slot 0 1 1 ∷ []) ≡ None ∷ None ∷ None ∷ []
none_at_other_slots = refl

there_or_not : map (has_function both) (slot 0 1 0 ∷ slot 0 2 0 ∷ slot 1 1 0 ∷ slot 0 3 0 ∷ slot 0 1 1 ∷ []) ≡ true ∷ true ∷ false ∷ false ∷ false ∷ []
there_or_not = refl

image_is_put_at_its_slot_alone : with_image both (slot 0 2 0) zeros ≡ first ∷ at_slot (slot 0 2 0) zeros ∷ []
image_is_put_at_its_slot_alone = refl

no_image_is_put_where_no_function_is : with_image both (slot 0 2 1) zeros ≡ both
no_image_is_put_where_no_function_is = refl

-- ---- accesses

widths : map (is_access 0) (0 ∷ 1 ∷ 2 ∷ 3 ∷ 4 ∷ 5 ∷ 6 ∷ 8 ∷ []) ≡ false ∷ true ∷ true ∷ false ∷ true ∷ false ∷ false ∷ false ∷ []
widths = refl

three_bytes_are_no_access_anywhere : map (λ offset. is_access offset 3) (0 ∷ 3 ∷ 4 ∷ 12 ∷ []) ≡ false ∷ false ∷ false ∷ false ∷ []
three_bytes_are_no_access_anywhere = refl

single_bytes : map (λ offset. is_access offset 1) (0 ∷ 1 ∷ 2 ∷ 3 ∷ 255 ∷ []) ≡ true ∷ true ∷ true ∷ true ∷ true ∷ []
single_bytes = refl

two_bytes : map (λ offset. is_access offset 2) (0 ∷ 1 ∷ 2 ∷ 3 ∷ 254 ∷ 255 ∷ []) ≡ true ∷ false ∷ true ∷ false ∷ true ∷ false ∷ []
two_bytes = refl

four_bytes : map (λ offset. is_access offset 4) (0 ∷ 1 ∷ 2 ∷ 3 ∷ 4 ∷ 252 ∷ 254 ∷ []) ≡ true ∷ false ∷ false ∷ false ∷ true ∷ true ∷ false ∷ []
four_bytes = refl

values_of_one_byte : map (fits 1) (0 ∷ 255 ∷ 256 ∷ []) ≡ true ∷ true ∷ false ∷ []
values_of_one_byte = refl

values_of_two_bytes : map (fits 2) (256 ∷ 0xffff ∷ 0x10000 ∷ []) ≡ true ∷ true ∷ false ∷ []
values_of_two_bytes = refl

values_of_four_bytes : map (fits 4) (0x10000 ∷ 0xffffffff ∷ 0x100000000 ∷ []) ≡ true ∷ true ∷ false ∷ []
values_of_four_bytes = refl

-- ---- what is shown

register_of_the_first : ShowsNumber both (slot 0 1 0) 0x10 4 0x12345678
register_of_the_first = (first, refl, refl)

half_of_it_at_its_offset : ShowsNumber both (slot 0 1 0) 0x12 2 0x1234
half_of_it_at_its_offset = (first, refl, refl)

-- only the number that stands there
shown_by_the_first : (o w n : ℕ) → ShowsNumber both (slot 0 1 0) o w n → n ≡ number_at first.image o w
shown_by_the_first o w n (t, at, e) = e ∙ ap (λ (u : Target). number_at u.image o w) (sym (same_Some first t at))

no_other_number_is_shown : ShowsNumber both (slot 0 1 0) 0x10 4 0x12345679 → ⊥
no_other_number_is_shown shown = let e : 0x12345679 ≡ 0x12345678 = shown_by_the_first 0x10 4 0x12345679 shown in let no : ⊥ = omega (arith, e) in no

no_wider_number_is_shown : ShowsNumber both (slot 0 1 0) 0x10 2 0x12345678 → ⊥
no_wider_number_is_shown shown = let e : 0x12345678 ≡ 0x5678 = shown_by_the_first 0x10 2 0x12345678 shown in let no : ⊥ = omega (arith, e) in no

nothing_is_shown_where_no_function_is : (n : ℕ) → ShowsNumber both (slot 0 3 0) 0x10 4 n → ⊥
nothing_is_shown_where_no_function_is n (t, at, e) = let none : None ≡ Some t = at in let no : ⊥ = cc in no

-- ---- which functions are lawful

status_of_a_device : map (is_status_byte (blank 0 0)) (5 ∷ 6 ∷ 7 ∷ 8 ∷ 0x1d ∷ 0x1e ∷ 0x1f ∷ 0x20 ∷ []) ≡ false ∷ true ∷ true ∷ false ∷ false ∷ false ∷ false ∷ false ∷ []
status_of_a_device = refl

both_status_registers_of_a_bridge : map (is_status_byte (blank 1 0)) (5 ∷ 6 ∷ 7 ∷ 8 ∷ 0x1d ∷ 0x1e ∷ 0x1f ∷ 0x20 ∷ []) ≡ false ∷ true ∷ true ∷ false ∷ false ∷ true ∷ true ∷ false ∷ []
both_status_registers_of_a_bridge = refl

no_bit_is_writable_and_cleared_by_a_one : IsTarget (record first { writable = put_bytes ((0x07, 0x80) ∷ []) zeros }) → ⊥
no_bit_is_writable_and_cleared_by_a_one is = both_ways true (is.apart 7 7) refl

no_bit_of_command_is_cleared_by_a_one : IsTarget (record first { writable = zeros; clearing = put_bytes ((0x05, 0x01) ∷ []) zeros }) → ⊥
no_bit_of_command_is_cleared_by_a_one is = let e : 1 ≡ 0 = is.status 5 refl in let no : ⊥ = omega (arith, e) in no

no_secondary_status_of_a_device_is : IsTarget (record first { clearing = put_bytes ((0x1f, 0x01) ∷ []) zeros }) → ⊥
no_secondary_status_of_a_device_is is = let e : 1 ≡ 0 = is.status 0x1f refl in let no : ⊥ = omega (arith, e) in no

no_image_is_of_one_byte : IsTarget (record first { image = 0 ∷ [] }) → ⊥
no_image_is_of_one_byte is = let full = is.image.full in let no : ⊥ = omega (arith, full) in no

no_byte_is_256 : IsTarget (record first { image = set zeros 9 256 }) → ⊥
no_byte_is_256 is = let small = is.image.bytes 9 in let no : ⊥ = omega (arith, small) in no

no_two_are_at_one_slot : IsLawful (first ∷ second ∷ at_slot (slot 0 1 0) zeros ∷ []) → ⊥
no_two_are_at_one_slot is = let same : 0 ≡ 2 = is.one 0 2 first (at_slot (slot 0 1 0) zeros) refl refl refl in let no : ⊥ = omega (arith, same) in no
