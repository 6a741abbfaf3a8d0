-- Windows of a bridge: their rules, what they hold, and what they decode to.
use Rattle.std.proofs.Common.{◌≡◌, ℕ, List, [], ◌∷◌, refl, Bool, true, false, Option, None, Some}
use Rattle.pci_spec.specs.Window.{WindowKind, IoWindow, MemoryWindow, PrefetchWindow, holds, breaks_window_rule, window_register}
use Rattle.pci_spec.specs.Decoded.{DecodedWindow, DecodedWindows, decoded_window, decoded_windows}
use Rattle.pci_spec.proofs.Examples.Samples.{on_bridge, read_backs, range}

-- ---- the rules

abbrev breaks : WindowKind → List (ℕ × ℕ) → List (ℕ × ℕ) → Bool
breaks kind values masks = breaks_window_rule kind (on_bridge values) (read_backs masks)

io_absent : breaks IoWindow [] [] ≡ false
io_absent = refl

io_of_16_bits : breaks IoWindow ((0x1c, 0x2010) ∷ []) ((0x1c, 0xf0f0) ∷ []) ≡ false
io_of_16_bits = refl

io_of_32_bits : breaks IoWindow ((0x1c, 0xf1e1) ∷ (0x30, 0x10001) ∷ []) ((0x1c, 0xf1f1) ∷ (0x30, 0xffffffff) ∷ []) ≡ false
io_of_32_bits = refl

io_of_base_and_limit_that_differ : breaks IoWindow [] ((0x1c, 0xf1f0) ∷ []) ≡ true
io_of_base_and_limit_that_differ = refl

io_with_an_upper_half_in_part : breaks IoWindow ((0x1c, 0x0101) ∷ []) ((0x1c, 0xf1f1) ∷ (0x30, 0x0000ffff) ∷ []) ≡ true
io_with_an_upper_half_in_part = refl

io_of_16_bits_with_upper_halves : breaks IoWindow [] ((0x1c, 0xf0f0) ∷ (0x30, 0xffffffff) ∷ []) ≡ true
io_of_16_bits_with_upper_halves = refl

io_of_16_bits_with_an_upper_value : breaks IoWindow ((0x30, 1) ∷ []) ((0x1c, 0xf0f0) ∷ []) ≡ true
io_of_16_bits_with_an_upper_value = refl

io_whose_value_shows_other_bits : breaks IoWindow ((0x1c, 0x0100) ∷ []) ((0x1c, 0xf1f1) ∷ (0x30, 0xffffffff) ∷ []) ≡ true
io_whose_value_shows_other_bits = refl

io_whose_page_bits_read_back_in_part : breaks IoWindow [] ((0x1c, 0x70f0) ∷ []) ≡ true
io_whose_page_bits_read_back_in_part = refl

io_value_without_a_read_back : breaks IoWindow ((0x1c, 0x1010) ∷ []) [] ≡ true
io_value_without_a_read_back = refl

io_upper_value_without_a_read_back : breaks IoWindow ((0x30, 1) ∷ []) [] ≡ true
io_upper_value_without_a_read_back = refl

memory_of_a_page : breaks MemoryWindow ((0x20, 0xe000e000) ∷ []) ((0x20, 0xfff0fff0) ∷ []) ≡ false
memory_of_a_page = refl

memory_is_never_absent : breaks MemoryWindow [] [] ≡ true
memory_is_never_absent = refl

memory_is_never_wide : breaks MemoryWindow ((0x20, 0x00010001) ∷ []) ((0x20, 0xfff1fff1) ∷ []) ≡ true
memory_is_never_wide = refl

memory_with_a_low_nibble : breaks MemoryWindow ((0x20, 0xe000e001) ∷ []) ((0x20, 0xfff0fff0) ∷ []) ≡ true
memory_with_a_low_nibble = refl

memory_whose_limit_has_a_low_nibble : breaks MemoryWindow ((0x20, 0xe001e000) ∷ []) ((0x20, 0xfff0fff0) ∷ []) ≡ true
memory_whose_limit_has_a_low_nibble = refl

memory_has_no_upper_halves : breaks MemoryWindow ((0x28, 1) ∷ []) ((0x20, 0xfff0fff0) ∷ (0x28, 0xffffffff) ∷ []) ≡ false
memory_has_no_upper_halves = refl

prefetchable_absent : breaks PrefetchWindow [] [] ≡ false
prefetchable_absent = refl

prefetchable_of_32_bits : breaks PrefetchWindow ((0x24, 0xe000e000) ∷ []) ((0x24, 0xfff0fff0) ∷ []) ≡ false
prefetchable_of_32_bits = refl

prefetchable_of_64_bits : breaks PrefetchWindow ((0x24, 0x00010001) ∷ []) ((0x24, 0xfff1fff1) ∷ (0x28, 0xffffffff) ∷ (0x2c, 0xffffffff) ∷ []) ≡ false
prefetchable_of_64_bits = refl

prefetchable_without_its_upper_halves : breaks PrefetchWindow ((0x24, 0x00010001) ∷ []) ((0x24, 0xfff1fff1) ∷ []) ≡ true
prefetchable_without_its_upper_halves = refl

prefetchable_without_its_limits_upper_half : breaks PrefetchWindow ((0x24, 0x00010001) ∷ []) ((0x24, 0xfff1fff1) ∷ (0x28, 0xffffffff) ∷ []) ≡ true
prefetchable_without_its_limits_upper_half = refl

prefetchable_of_32_bits_with_an_upper_value : breaks PrefetchWindow ((0x24, 0xe000e000) ∷ (0x2c, 1) ∷ []) ((0x24, 0xfff0fff0) ∷ []) ≡ true
prefetchable_of_32_bits_with_an_upper_value = refl

prefetchable_value_of_other_width : breaks PrefetchWindow ((0x24, 0x00000000) ∷ []) ((0x24, 0xfff1fff1) ∷ (0x28, 0xffffffff) ∷ (0x2c, 0xffffffff) ∷ []) ≡ true
prefetchable_value_of_other_width = refl

-- ---- what they hold

abbrev holds_at : WindowKind → List (ℕ × ℕ) → List (ℕ × ℕ) → ℕ → Bool
holds_at kind values masks a = holds kind (on_bridge values) (read_backs masks) a

io_from_its_first_address : holds_at IoWindow ((0x1c, 0xf1e1) ∷ (0x30, 0x10001) ∷ []) ((0x1c, 0xf1f1) ∷ (0x30, 0xffffffff) ∷ []) 0x1e000 ≡ true
io_from_its_first_address = refl

io_to_its_last_address : holds_at IoWindow ((0x1c, 0xf1e1) ∷ (0x30, 0x10001) ∷ []) ((0x1c, 0xf1f1) ∷ (0x30, 0xffffffff) ∷ []) 0x1ffff ≡ true
io_to_its_last_address = refl

io_not_the_address_before : holds_at IoWindow ((0x1c, 0xf1e1) ∷ (0x30, 0x10001) ∷ []) ((0x1c, 0xf1f1) ∷ (0x30, 0xffffffff) ∷ []) 0x1dfff ≡ false
io_not_the_address_before = refl

io_not_the_address_after : holds_at IoWindow ((0x1c, 0xf1e1) ∷ (0x30, 0x10001) ∷ []) ((0x1c, 0xf1f1) ∷ (0x30, 0xffffffff) ∷ []) 0x20000 ≡ false
io_not_the_address_after = refl

open_io_at_0 : holds_at IoWindow [] ((0x1c, 0xf0f0) ∷ []) 0x0fff ≡ true
open_io_at_0 = refl

absent_io_holds_nothing : holds_at IoWindow [] [] 0x0fff ≡ false
absent_io_holds_nothing = refl

one_page_of_io : holds_at IoWindow [] ((0x1c, 0xf0f0) ∷ []) 0x1000 ≡ false
one_page_of_io = refl

memory_from_its_first_address : holds_at MemoryWindow ((0x20, 0xe010e000) ∷ []) ((0x20, 0xfff0fff0) ∷ []) 0xe0000000 ≡ true
memory_from_its_first_address = refl

memory_to_its_last_address : holds_at MemoryWindow ((0x20, 0xe010e000) ∷ []) ((0x20, 0xfff0fff0) ∷ []) 0xe01fffff ≡ true
memory_to_its_last_address = refl

memory_not_the_address_before : holds_at MemoryWindow ((0x20, 0xe010e000) ∷ []) ((0x20, 0xfff0fff0) ∷ []) 0xdfffffff ≡ false
memory_not_the_address_before = refl

memory_not_the_address_after : holds_at MemoryWindow ((0x20, 0xe010e000) ∷ []) ((0x20, 0xfff0fff0) ∷ []) 0xe0200000 ≡ false
memory_not_the_address_after = refl

memory_open_at_0 : holds_at MemoryWindow [] ((0x20, 0xfff0fff0) ∷ []) 0xfffff ≡ true
memory_open_at_0 = refl

closed_memory_holds_nothing : holds_at MemoryWindow ((0x20, 0x0000fff0) ∷ []) ((0x20, 0xfff0fff0) ∷ []) 0xfff00000 ≡ false
closed_memory_holds_nothing = refl

memory_has_32_bits : holds_at MemoryWindow ((0x20, 0xe010e000) ∷ []) ((0x20, 0xfff0fff0) ∷ []) 0x1e0000000 ≡ false
memory_has_32_bits = refl

memory_window_ignores_the_upper_halves : holds_at MemoryWindow ((0x20, 0xe010e000) ∷ (0x28, 1) ∷ (0x2c, 1) ∷ []) ((0x20, 0xfff0fff0) ∷ (0x28, 0xffffffff) ∷ (0x2c, 0xffffffff) ∷ []) 0xe0000000 ≡ true
memory_window_ignores_the_upper_halves = refl

all_of_memory_from_0 : holds_at PrefetchWindow ((0x24, 0xfff10001) ∷ (0x2c, 0xffffffff) ∷ []) ((0x24, 0xfff1fff1) ∷ (0x28, 0xffffffff) ∷ (0x2c, 0xffffffff) ∷ []) 0 ≡ true
all_of_memory_from_0 = refl

all_of_memory_to_its_end : holds_at PrefetchWindow ((0x24, 0xfff10001) ∷ (0x2c, 0xffffffff) ∷ []) ((0x24, 0xfff1fff1) ∷ (0x28, 0xffffffff) ∷ (0x2c, 0xffffffff) ∷ []) 0xffffffffffffffff ≡ true
all_of_memory_to_its_end = refl

all_of_memory_and_no_more : holds_at PrefetchWindow ((0x24, 0xfff10001) ∷ (0x2c, 0xffffffff) ∷ []) ((0x24, 0xfff1fff1) ∷ (0x28, 0xffffffff) ∷ (0x2c, 0xffffffff) ∷ []) 0x10000000000000000 ≡ false
all_of_memory_and_no_more = refl

absent_prefetchable_holds_nothing : holds_at PrefetchWindow [] [] 0 ≡ false
absent_prefetchable_holds_nothing = refl

open_prefetchable_at_0 : holds_at PrefetchWindow [] ((0x24, 0xfff0fff0) ∷ []) 0 ≡ true
open_prefetchable_at_0 = refl

-- ---- what they decode to

abbrev opened : Bool → ℕ → ℕ → DecodedWindow
opened wide first last = record { wide = wide; range = Some (range first last) }

abbrev closed : Bool → DecodedWindow
closed wide = record { wide = wide; range = None }

abbrev windows : Option DecodedWindow → DecodedWindow → Option DecodedWindow → DecodedWindows
windows io memory prefetch = record { io = io; memory = memory; prefetch = prefetch }

abbrev windows_of : List (ℕ × ℕ) → List (ℕ × ℕ) → DecodedWindows
windows_of values masks = decoded_windows (on_bridge values) (read_backs masks)

memory_alone : windows_of ((0x20, 0xe010e000) ∷ []) ((0x20, 0xfff0fff0) ∷ []) ≡ windows None (opened false 0xe0000000 0xe01fffff) None
memory_alone = refl

memory_and_wide_prefetchable : windows_of ((0x20, 0xe010e000) ∷ (0x24, 0x00010001) ∷ (0x28, 1) ∷ (0x2c, 1) ∷ []) ((0x20, 0xfff0fff0) ∷ (0x24, 0xfff1fff1) ∷ (0x28, 0xffffffff) ∷ (0x2c, 0xffffffff) ∷ []) ≡ windows None (opened false 0xe0000000 0xe01fffff) (Some (opened true 0x100000000 0x1000fffff))
memory_and_wide_prefetchable = refl

all_closed : windows_of ((0x1c, 0x00f0) ∷ (0x20, 0x0000fff0) ∷ (0x24, 0x0001fff1) ∷ []) ((0x1c, 0xf0f0) ∷ (0x20, 0xfff0fff0) ∷ (0x24, 0xfff1fff1) ∷ (0x28, 0xffffffff) ∷ (0x2c, 0xffffffff) ∷ []) ≡ windows (Some (closed false)) (closed false) (Some (closed true))
all_closed = refl

wide_io : windows_of ((0x1c, 0xf1e1) ∷ (0x20, 0x0000fff0) ∷ (0x30, 0x10001) ∷ []) ((0x1c, 0xf1f1) ∷ (0x20, 0xfff0fff0) ∷ (0x30, 0xffffffff) ∷ []) ≡ windows (Some (opened true 0x1e000 0x1ffff)) (closed false) None
wide_io = refl

one_page_each_at_0 : windows_of [] ((0x1c, 0xf0f0) ∷ (0x20, 0xfff0fff0) ∷ (0x24, 0xfff0fff0) ∷ []) ≡ windows (Some (opened false 0 0xfff)) (opened false 0 0xfffff) (Some (opened false 0 0xfffff))
one_page_each_at_0 = refl

prefetchable_over_all_of_memory : windows_of ((0x20, 0x0000fff0) ∷ (0x24, 0xfff10001) ∷ (0x2c, 0xffffffff) ∷ []) ((0x20, 0xfff0fff0) ∷ (0x24, 0xfff1fff1) ∷ (0x28, 0xffffffff) ∷ (0x2c, 0xffffffff) ∷ []) ≡ windows None (closed false) (Some (opened true 0 0xffffffffffffffff))
prefetchable_over_all_of_memory = refl

io_up_to_4_gb : windows_of ((0x1c, 0xf101) ∷ (0x20, 0x0000fff0) ∷ (0x30, 0xffff0000) ∷ []) ((0x1c, 0xf1f1) ∷ (0x20, 0xfff0fff0) ∷ (0x30, 0xffffffff) ∷ []) ≡ windows (Some (opened true 0 0xffffffff)) (closed false) None
io_up_to_4_gb = refl

named_by_their_bases : window_register IoWindow ∷ window_register MemoryWindow ∷ window_register PrefetchWindow ∷ [] ≡ 0x1c ∷ 0x20 ∷ 0x24 ∷ []
named_by_their_bases = refl

-- how wide a window is, its base's read back alone says
abbrev is_wide_by : List (ℕ × ℕ) → List (ℕ × ℕ) → Bool
is_wide_by values masks = (decoded_window PrefetchWindow (read_backs values) (read_backs masks)).wide

wide_by_its_bases_read_back : is_wide_by [] ((0x24, 0xfff0fff1) ∷ []) ∷ is_wide_by [] ((0x24, 0xfff1fff0) ∷ []) ∷ is_wide_by ((0x24, 0xfff1fff1) ∷ []) [] ∷ [] ≡ true ∷ false ∷ false ∷ []
wide_by_its_bases_read_back = refl
