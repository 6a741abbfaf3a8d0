-- BARs: which rule registers break, and what they decode to.
use Rattle.std.proofs.Common.{◌≡◌, ℕ, List, [], ◌∷◌, refl, Bool, true, false, Option, None, Some}
use Rattle.pci_spec.specs.Number.{each_from, some_from}
use Rattle.pci_spec.specs.Bar.{BarKind, IoBar, Memory32, Memory64, Reserved, BarFault, BarMask, BarType, BarPair, bar_fault, bar_kind, starts_bar}
use Rattle.pci_spec.specs.Decoded.{DecodedBar, decoded_bars, bar_size}
use Rattle.pci_spec.proofs.Examples.Samples.{on_device, on_bridge, read_backs, range}

-- ---- what they decode to

abbrev bar : ℕ → BarKind → Bool → ℕ → ℕ → DecodedBar
bar register kind prefetchable first last = record { register = register; kind = kind; prefetchable = prefetchable; range = range first last }

abbrev bars_of : List (ℕ × ℕ) → List (ℕ × ℕ) → List DecodedBar
bars_of values masks = decoded_bars (on_device values) (read_backs masks)

io_bar_of_32_addresses : bars_of ((0x10, 0xe001) ∷ []) ((0x10, 0xffe1) ∷ []) ≡ bar 0x10 IoBar false 0xe000 0xe01f ∷ []
io_bar_of_32_addresses = refl

io_bar_with_all_its_address_bits : bars_of ((0x10, 0xe011) ∷ []) ((0x10, 0xfffffff1) ∷ []) ≡ bar 0x10 IoBar false 0xe010 0xe01f ∷ []
io_bar_with_all_its_address_bits = refl

io_bar_of_4_addresses : bars_of ((0x10, 0xe00d) ∷ []) ((0x10, 0xfffffffd) ∷ []) ≡ bar 0x10 IoBar false 0xe00c 0xe00f ∷ []
io_bar_of_4_addresses = refl

plain_bar_of_4_kb : bars_of ((0x10, 0xfe000000) ∷ []) ((0x10, 0xfffff000) ∷ []) ≡ bar 0x10 Memory32 false 0xfe000000 0xfe000fff ∷ []
plain_bar_of_4_kb = refl

prefetchable_bar_of_1_mb : bars_of ((0x10, 0xfe000008) ∷ []) ((0x10, 0xfff00008) ∷ []) ≡ bar 0x10 Memory32 true 0xfe000000 0xfe0fffff ∷ []
prefetchable_bar_of_1_mb = refl

plain_bar_up_to_4_gb : bars_of ((0x10, 0xf0000000) ∷ []) ((0x10, 0xf0000000) ∷ []) ≡ bar 0x10 Memory32 false 0xf0000000 0xffffffff ∷ []
plain_bar_up_to_4_gb = refl

wide_bar_at_the_top_of_memory : bars_of ((0x10, 0xf000000c) ∷ (0x14, 0xffffffff) ∷ []) ((0x10, 0xf000000c) ∷ (0x14, 0xffffffff) ∷ []) ≡ bar 0x10 Memory64 true 0xfffffffff0000000 0xffffffffffffffff ∷ []
wide_bar_at_the_top_of_memory = refl

wide_bar_of_8_gb : bars_of ((0x10, 0xc) ∷ (0x14, 2) ∷ []) ((0x10, 0xc) ∷ (0x14, 0xfffffffe) ∷ []) ≡ bar 0x10 Memory64 true 0x200000000 0x3ffffffff ∷ []
wide_bar_of_8_gb = refl

wide_bar_of_256_mb_above_4_gb : bars_of ((0x10, 0xf000000c) ∷ (0x14, 1) ∷ []) ((0x10, 0xf000000c) ∷ (0x14, 0xffffffff) ∷ []) ≡ bar 0x10 Memory64 true 0x1f0000000 0x1ffffffff ∷ []
wide_bar_of_256_mb_above_4_gb = refl

wide_bar_that_is_not_prefetchable : bars_of ((0x10, 4) ∷ (0x14, 1) ∷ []) ((0x10, 0xfff00004) ∷ (0x14, 0xffffffff) ∷ []) ≡ bar 0x10 Memory64 false 0x100000000 0x1000fffff ∷ []
wide_bar_that_is_not_prefetchable = refl

no_bar : bars_of [] [] ≡ []
no_bar = refl

bars_in_the_order_of_registers : bars_of ((0x14, 0x1c) ∷ (0x18, 1) ∷ (0x24, 0xe001) ∷ []) ((0x10, 0xfffff000) ∷ (0x14, 0xfffffffc) ∷ (0x18, 0xffffffff) ∷ (0x24, 0xffffff01) ∷ [])
    ≡ bar 0x10 Memory32 false 0 0xfff ∷ bar 0x14 Memory64 true 0x100000010 0x10000001f ∷ bar 0x24 IoBar false 0xe000 0xe0ff ∷ []
bars_in_the_order_of_registers = refl

bridge_has_two_bars : decoded_bars (on_bridge ((0x14, 0xfe000000) ∷ [])) (read_backs ((0x14, 0xfff00000) ∷ (0x20, 0xfff0fff0) ∷ [])) ≡ bar 0x14 Memory32 false 0xfe000000 0xfe0fffff ∷ []
bridge_has_two_bars = refl

sizes_are_powers_of_two : bar_size (read_backs ((0x10, 0x80000000) ∷ (0x14, 0xfffffff0) ∷ (0x18, 0xfff1) ∷ (0x1c, 4) ∷ (0x20, 0x80000000) ∷ [])) 0
    ∷ bar_size (read_backs ((0x14, 0xfffffff0) ∷ [])) 1 ∷ bar_size (read_backs ((0x18, 0xfff1) ∷ [])) 2 ∷ bar_size (read_backs ((0x1c, 4) ∷ (0x20, 0x80000000) ∷ [])) 3 ∷ []
    ≡ 0x80000000 ∷ 16 ∷ 16 ∷ 0x8000000000000000 ∷ []
sizes_are_powers_of_two = refl

-- ---- which registers start a BAR

upper_half_starts_none : starts_bar (read_backs ((0x10, 0xf000000c) ∷ (0x14, 0xffffffff) ∷ [])) 1 ≡ false
upper_half_starts_none = refl

one_after_an_upper_half_does : starts_bar (read_backs ((0x10, 0xf000000c) ∷ (0x14, 0xffffffff) ∷ [])) 2 ≡ true
one_after_an_upper_half_does = refl

upper_half_that_looks_wide_takes_no_register : starts_bar (read_backs ((0x10, 0xc) ∷ (0x14, 0xfffffffc) ∷ [])) 2 ≡ true
upper_half_that_looks_wide_takes_no_register = refl

one_after_a_plain_bar_does : starts_bar (read_backs ((0x10, 0xfff00008) ∷ [])) 1 ≡ true
one_after_a_plain_bar_does = refl

one_after_an_io_bar_does : starts_bar (read_backs ((0x10, 0xfffffffd) ∷ [])) 1 ≡ true
one_after_an_io_bar_does = refl

kinds : bar_kind 0xfffffff1 ∷ bar_kind 0xfff00008 ∷ bar_kind 0xfff0000c ∷ bar_kind 0xfff00002 ∷ bar_kind 0xfff00006 ∷ [] ≡ IoBar ∷ Memory32 ∷ Memory64 ∷ Reserved ∷ Reserved ∷ []
kinds = refl

-- ---- the rules

abbrev fault_of : ℕ → List (ℕ × ℕ) → List (ℕ × ℕ) → Option BarFault
fault_of n values masks = bar_fault (on_device values) (read_backs masks) n

abbrev first_fault : ℕ → ℕ → Option BarFault
first_fault value mask = fault_of 0 ((0x10, value) ∷ []) ((0x10, mask) ∷ [])

absent : fault_of 0 [] [] ≡ None
unfolding each_from some_from
absent = refl

io_of_32_addresses : first_fault 0xe001 0xffe1 ≡ None
unfolding each_from some_from
io_of_32_addresses = refl

io_of_4_addresses : first_fault 0xe00d 0xfffffffd ≡ None
unfolding each_from some_from
io_of_4_addresses = refl

io_of_256_addresses : first_fault 0xe001 0xffffff01 ≡ None
unfolding each_from some_from
io_of_256_addresses = refl

io_of_512_addresses : first_fault 0xe001 0xfffffe01 ≡ Some BarMask
unfolding each_from some_from
io_of_512_addresses = refl

io_of_16_bits_of_4_addresses : first_fault 0xe001 0xfffd ≡ None
unfolding each_from some_from
io_of_16_bits_of_4_addresses = refl

io_of_16_bits_of_256_addresses : first_fault 0xe001 0xff01 ≡ None
unfolding each_from some_from
io_of_16_bits_of_256_addresses = refl

io_of_16_bits_of_512_addresses : first_fault 0xe001 0xfe01 ≡ Some BarMask
unfolding each_from some_from
io_of_16_bits_of_512_addresses = refl

io_that_ends_at_bit_16 : first_fault 0xe001 0x1ff01 ≡ Some BarMask
unfolding each_from some_from
io_that_ends_at_bit_16 = refl

io_that_ends_at_bit_14 : first_fault 1 0x7f01 ≡ Some BarMask
unfolding each_from some_from
io_that_ends_at_bit_14 = refl

io_with_a_one_above_its_16_bits : first_fault 0xe0001001 0xfff1 ≡ Some BarMask
unfolding each_from some_from
io_with_a_one_above_its_16_bits = refl

io_with_bit_1 : first_fault 3 0xfffffff3 ≡ Some BarMask
unfolding each_from some_from
io_with_bit_1 = refl

io_without_an_address_bit : first_fault 1 1 ≡ Some BarMask
unfolding each_from some_from
io_without_an_address_bit = refl

prefetchable : first_fault 0xfe000008 0xfff00008 ≡ None
unfolding each_from some_from
prefetchable = refl

memory_of_16_addresses : first_fault 0xfe000010 0xfffffff0 ≡ None
unfolding each_from some_from
memory_of_16_addresses = refl

memory_of_2_gb : first_fault 0x80000000 0x80000000 ≡ None
unfolding each_from some_from
memory_of_2_gb = refl

memory_without_an_address_bit : first_fault 8 8 ≡ Some BarMask
unfolding each_from some_from
memory_without_an_address_bit = refl

memory_that_ends_at_bit_30 : first_fault 0 0x7ffffff0 ≡ Some BarMask
unfolding each_from some_from
memory_that_ends_at_bit_30 = refl

hole : first_fault 0xfff00000 0xfff0f000 ≡ Some BarMask
unfolding each_from some_from
hole = refl

read_back_0_of_a_value : first_fault 0xfe000000 0 ≡ Some BarMask
unfolding each_from some_from
read_back_0_of_a_value = refl

value_0_of_a_read_back : first_fault 0 0xffffffff ≡ Some BarMask
unfolding each_from some_from
value_0_of_a_read_back = refl

value_that_is_io_of_a_read_back_that_is_not : first_fault 0xfe000001 0xfff00000 ≡ Some BarMask
unfolding each_from some_from
value_that_is_io_of_a_read_back_that_is_not = refl

value_that_is_prefetchable_of_a_read_back_that_is_not : first_fault 0xfe000008 0xfff00000 ≡ Some BarMask
unfolding each_from some_from
value_that_is_prefetchable_of_a_read_back_that_is_not = refl

value_of_another_type_goes_before_a_reserved_type : first_fault 0 0xfff00002 ≡ Some BarMask
unfolding each_from some_from
value_of_another_type_goes_before_a_reserved_type = refl

type_below_1_mb : first_fault 2 0xfff00002 ≡ Some BarType
unfolding each_from some_from
type_below_1_mb = refl

type_3 : first_fault 6 0xfff00006 ≡ Some BarType
unfolding each_from some_from
type_3 = refl

reserved_type_goes_before_a_hole : first_fault 2 0xfff0f002 ≡ Some BarType
unfolding each_from some_from
reserved_type_goes_before_a_hole = refl

value_with_a_low_one_outside : first_fault 0xfe001000 0xfff00000 ≡ Some BarMask
unfolding each_from some_from
value_with_a_low_one_outside = refl

value_outside_its_read_back : first_fault 0xfe080000 0xfff00000 ≡ Some BarMask
unfolding each_from some_from
value_outside_its_read_back = refl

wide_at_the_top_of_memory : fault_of 0 ((0x10, 0xf000000c) ∷ (0x14, 0xffffffff) ∷ []) ((0x10, 0xf000000c) ∷ (0x14, 0xffffffff) ∷ []) ≡ None
unfolding each_from some_from
wide_at_the_top_of_memory = refl

its_upper_half_breaks_no_rule : fault_of 1 ((0x10, 0xf000000c) ∷ (0x14, 0xffffffff) ∷ []) ((0x10, 0xf000000c) ∷ (0x14, 0xffffffff) ∷ []) ≡ None
unfolding each_from some_from
its_upper_half_breaks_no_rule = refl

wide_of_8_gb : fault_of 0 ((0x10, 0xc) ∷ (0x14, 2) ∷ []) ((0x10, 0xc) ∷ (0x14, 0xfffffffe) ∷ []) ≡ None
unfolding each_from some_from
wide_of_8_gb = refl

wide_of_half_of_memory : fault_of 0 ((0x10, 4) ∷ (0x14, 0x80000000) ∷ []) ((0x10, 4) ∷ (0x14, 0x80000000) ∷ []) ≡ None
unfolding each_from some_from
wide_of_half_of_memory = refl

wide_without_an_address_bit : fault_of 0 ((0x10, 4) ∷ []) ((0x10, 4) ∷ []) ≡ Some BarMask
unfolding each_from some_from
wide_without_an_address_bit = refl

wide_that_ends_at_bit_31 : fault_of 0 ((0x10, 0xfe000004) ∷ []) ((0x10, 0xfff00004) ∷ []) ≡ Some BarMask
unfolding each_from some_from
wide_that_ends_at_bit_31 = refl

wide_with_a_hole_in_its_upper_half : fault_of 0 ((0x10, 4) ∷ []) ((0x10, 4) ∷ (0x14, 0xfffffffd) ∷ []) ≡ Some BarMask
unfolding each_from some_from
wide_with_a_hole_in_its_upper_half = refl

wide_with_an_upper_value_outside_its_read_back : fault_of 0 ((0x10, 4) ∷ (0x14, 1) ∷ []) ((0x10, 4) ∷ (0x14, 0xfffffffe) ∷ []) ≡ Some BarMask
unfolding each_from some_from
wide_with_an_upper_value_outside_its_read_back = refl

wide_in_the_last_register : fault_of 5 ((0x24, 0xfe00000c) ∷ []) ((0x24, 0xff00000c) ∷ []) ≡ Some BarPair
unfolding each_from some_from
wide_in_the_last_register = refl

last_register_goes_before_a_hole : fault_of 5 ((0x24, 4) ∷ []) ((0x24, 0xfff0f004) ∷ []) ≡ Some BarPair
unfolding each_from some_from
last_register_goes_before_a_hole = refl

wide_in_the_last_register_but_one : fault_of 4 ((0x20, 0xc) ∷ (0x24, 1) ∷ []) ((0x20, 0xff00000c) ∷ (0x24, 0xffffffff) ∷ []) ≡ None
unfolding each_from some_from
wide_in_the_last_register_but_one = refl

second_bar_of_a_value_that_its_read_back_is_not : fault_of 1 ((0x14, 1) ∷ []) ((0x14, 0xffffffff) ∷ []) ≡ Some BarMask
unfolding each_from some_from
second_bar_of_a_value_that_its_read_back_is_not = refl

wide_in_the_second_register_of_a_bridge : bar_fault (on_bridge ((0x14, 0xc) ∷ [])) (read_backs ((0x14, 0xff00000c) ∷ [])) 1 ≡ Some BarPair
unfolding each_from some_from
wide_in_the_second_register_of_a_bridge = refl
