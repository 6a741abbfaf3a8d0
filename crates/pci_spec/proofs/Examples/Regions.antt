-- Regions of a function, and what bridges pass.
use Rattle.std.proofs.Common.{◌≡◌, ℕ, ◌<◌, List, [], ◌∷◌, refl, Bool, true, false, map, lit<, arith}
use Rattle.std.specs.List.{list_all}
use Rattle.pci_spec.specs.Window.{IoWindow, MemoryWindow, PrefetchWindow}
use Rattle.pci_spec.specs.System.{Function, Io, Memory, Bar, Rom, Window, IsAddress, forwards, passes, bars_and_rom, windows_of, has_part, register_of, space_of, is_enabled, is_bridge, is_prefetchable_part}
use Rattle.pci_spec.proofs.Examples.Samples.{slot, device, bridge}

-- ---- the parts of a function

-- BARs at 10h and 14h, the upper half of the second at 18h, one more at 24h, and a ROM
abbrev full_device : ℕ → ℕ → Function
full_device command rom =
    device (slot 0 1 0) command ((0x10, 0xfe000000) ∷ (0x14, 0xc) ∷ (0x24, 0xe001) ∷ (0x30, rom) ∷ [])
    ((0x10, 0xfffff000) ∷ (0x14, 0xfffff00c) ∷ (0x18, 0xffffffff) ∷ (0x24, 0xffffff01) ∷ (0x30, 0xfffff800) ∷ [])

abbrev full_bridge : ℕ → Function
full_bridge command = bridge (slot 0 2 0) command 0x10100 [] ((0x14, 0xfff00000) ∷ (0x1c, 0xf0f0) ∷ (0x24, 0xfff0fff0) ∷ (0x38, 0xffff0000) ∷ [])

abbrev plain_bridge : Function
plain_bridge = bridge (slot 0 2 0) 0 0x10100 [] []

bars_and_rom_of_a_device : bars_and_rom (full_device 0 0) ≡ Bar 0 ∷ Bar 1 ∷ Bar 5 ∷ Rom ∷ []
bars_and_rom_of_a_device = refl

bars_and_rom_of_a_bridge : bars_and_rom (full_bridge 0) ≡ Bar 1 ∷ Rom ∷ []
bars_and_rom_of_a_bridge = refl

nothing_implemented : bars_and_rom (device (slot 0 1 0) 0 [] []) ≡ []
nothing_implemented = refl

windows_of_a_bridge : windows_of (full_bridge 0) ≡ Window IoWindow ∷ Window MemoryWindow ∷ Window PrefetchWindow ∷ []
windows_of_a_bridge = refl

memory_window_is_always_there : windows_of plain_bridge ≡ Window MemoryWindow ∷ []
memory_window_is_always_there = refl

device_has_no_windows : windows_of (full_device 0 0) ≡ []
device_has_no_windows = refl

registers_that_name_them : map (register_of (full_device 0 0)) (Bar 0 ∷ Bar 5 ∷ Rom ∷ []) ≡ 0x10 ∷ 0x24 ∷ 0x30 ∷ []
registers_that_name_them = refl

registers_that_name_them_on_a_bridge : map (register_of (full_bridge 0)) (Bar 1 ∷ Rom ∷ Window IoWindow ∷ Window MemoryWindow ∷ Window PrefetchWindow ∷ []) ≡ 0x14 ∷ 0x38 ∷ 0x1c ∷ 0x20 ∷ 0x24 ∷ []
registers_that_name_them_on_a_bridge = refl

spaces : map (space_of (full_bridge 0)) (Bar 1 ∷ Rom ∷ Window IoWindow ∷ Window MemoryWindow ∷ Window PrefetchWindow ∷ []) ≡ Memory ∷ Memory ∷ Io ∷ Memory ∷ Memory ∷ []
spaces = refl

spaces_of_bars : map (space_of (full_device 0 0)) (Bar 0 ∷ Bar 1 ∷ Bar 5 ∷ []) ≡ Memory ∷ Memory ∷ Io ∷ []
spaces_of_bars = refl

space_is_that_of_the_read_back : space_of (device (slot 0 1 0) 0 [] ((0x10, 0xffffff01) ∷ [])) (Bar 0) ≡ Io
space_is_that_of_the_read_back = refl

a_header_has_them : map (has_part (full_device 0 0)) (Bar 5 ∷ Bar 6 ∷ Rom ∷ Window IoWindow ∷ []) ≡ true ∷ false ∷ true ∷ false ∷ []
a_header_has_them = refl

a_bridges_header_has_them : map (has_part (full_bridge 0)) (Bar 1 ∷ Bar 2 ∷ Rom ∷ Window IoWindow ∷ []) ≡ true ∷ false ∷ true ∷ true ∷ []
a_bridges_header_has_them = refl

prefetchable_bar_alone_is_prefetchable : map (is_prefetchable_part (full_device 0 0)) (Bar 0 ∷ Bar 1 ∷ Bar 5 ∷ Rom ∷ []) ≡ false ∷ true ∷ false ∷ false ∷ []
prefetchable_bar_alone_is_prefetchable = refl

no_window_is_a_prefetchable_bar : is_prefetchable_part (full_bridge 0) (Window PrefetchWindow) ≡ false
no_window_is_a_prefetchable_bar = refl

a_bridge_by_its_layout : is_bridge (full_device 0 0) ∷ is_bridge (full_bridge 0) ∷ [] ≡ false ∷ true ∷ []
a_bridge_by_its_layout = refl

-- ---- what is enabled

nothing_is_on : map (is_enabled (full_device 4 0xfe000001)) (Bar 0 ∷ Bar 5 ∷ Rom ∷ []) ≡ false ∷ false ∷ false ∷ []
nothing_is_on = refl

io_is_on : map (is_enabled (full_device 1 0xfe000001)) (Bar 0 ∷ Bar 5 ∷ Rom ∷ []) ≡ false ∷ true ∷ false ∷ []
io_is_on = refl

memory_is_on : map (is_enabled (full_device 2 0xfe000001)) (Bar 0 ∷ Bar 5 ∷ Rom ∷ []) ≡ true ∷ false ∷ true ∷ []
memory_is_on = refl

memory_is_on_without_the_rom : map (is_enabled (full_device 2 0xfe000000)) (Bar 0 ∷ Bar 5 ∷ Rom ∷ []) ≡ true ∷ false ∷ false ∷ []
memory_is_on_without_the_rom = refl

io_of_a_bridge_is_on : map (is_enabled (full_bridge 1)) (Window IoWindow ∷ Window MemoryWindow ∷ Window PrefetchWindow ∷ []) ≡ true ∷ false ∷ false ∷ []
io_of_a_bridge_is_on = refl

memory_of_a_bridge_is_on : map (is_enabled (full_bridge 2)) (Window IoWindow ∷ Window MemoryWindow ∷ Window PrefetchWindow ∷ []) ≡ false ∷ true ∷ true ∷ []
memory_of_a_bridge_is_on = refl

-- ---- addresses

io_has_32_bits : IsAddress Io 0xffffffff
io_has_32_bits = lit< tt

io_has_no_more : IsAddress Io 0x100000000 → ⊥
io_has_no_more h = let less : 0x100000000 < 0x100000000 = h in omega (arith, less)

memory_has_64_bits : IsAddress Memory 0xffffffffffffffff
memory_has_64_bits = lit< tt

memory_has_no_more : IsAddress Memory 0x10000000000000000 → ⊥
memory_has_no_more h = let less : 0x10000000000000000 < 0x10000000000000000 = h in omega (arith, less)

-- ---- what a bridge passes, and what it forwards

abbrev with_io : ℕ → List (ℕ × ℕ) → Function
with_io command masks = bridge (slot 0 1 0) command 0x10100 [] masks

abbrev with_memory : ℕ → List (ℕ × ℕ) → Function
with_memory command values = bridge (slot 0 1 0) command 0x10100 values []

-- its memory window is closed, its prefetchable window is a page
abbrev with_prefetch : ℕ → Function
with_prefetch command = bridge (slot 0 1 0) command 0x10100 ((0x20, 0x0000fff0) ∷ (0x24, 0xe000e000) ∷ []) ((0x24, 0xfff0fff0) ∷ [])

io_window_that_is_absent_passes_nothing : passes Io false 0x100 (with_io 1 []) ≡ false
io_window_that_is_absent_passes_nothing = refl

io_has_no_prefetchable_window : passes Io true 0x100 (with_io 1 ((0x24, 0xfff0fff0) ∷ [])) ≡ false
io_has_no_prefetchable_window = refl

io_window_that_is_open_at_0_passes : passes Io false 0x100 (with_io 1 ((0x1c, 0xf0f0) ∷ [])) ≡ true
io_window_that_is_open_at_0_passes = refl

io_window_that_is_off_passes_nothing : passes Io false 0x100 (with_io 2 ((0x1c, 0xf0f0) ∷ [])) ≡ false
io_window_that_is_off_passes_nothing = refl

memory_window_that_is_off_passes_nothing : passes Memory false 0xe0000000 (with_memory 1 ((0x20, 0xe000e000) ∷ [])) ≡ false
memory_window_that_is_off_passes_nothing = refl

memory_window_that_is_on_passes : passes Memory false 0xe0000000 (with_memory 2 ((0x20, 0xe000e000) ∷ [])) ≡ true
memory_window_that_is_on_passes = refl

memory_window_passes_its_last_address : passes Memory false 0xe00fffff (with_memory 2 ((0x20, 0xe000e000) ∷ [])) ≡ true
memory_window_passes_its_last_address = refl

memory_window_passes_no_address_after : passes Memory false 0xe0100000 (with_memory 2 ((0x20, 0xe000e000) ∷ [])) ≡ false
memory_window_passes_no_address_after = refl

memory_window_passes_a_prefetchable_bar_too : passes Memory true 0xe0000000 (with_memory 2 ((0x20, 0xe000e000) ∷ [])) ≡ true
memory_window_passes_a_prefetchable_bar_too = refl

prefetchable_window_passes_no_plain_bar : passes Memory false 0xe0000000 (with_prefetch 2) ≡ false
prefetchable_window_passes_no_plain_bar = refl

prefetchable_window_passes_a_prefetchable_bar : passes Memory true 0xe0000000 (with_prefetch 2) ≡ true
prefetchable_window_passes_a_prefetchable_bar = refl

prefetchable_window_that_is_off_passes_nothing : passes Memory true 0xe0000000 (with_prefetch 1) ≡ false
prefetchable_window_that_is_off_passes_nothing = refl

prefetchable_window_forwards_any_access : forwards Memory 0xe0000000 (with_prefetch 2) ≡ true
prefetchable_window_forwards_any_access = refl

prefetchable_window_forwards_no_io : forwards Io 0xe0000000 (with_prefetch 3) ≡ false
prefetchable_window_forwards_no_io = refl

memory_window_forwards : forwards Memory 0xe0000000 (with_memory 2 ((0x20, 0xe000e000) ∷ [])) ≡ true
memory_window_forwards = refl

io_window_forwards : forwards Io 0x100 (with_io 1 ((0x1c, 0xf0f0) ∷ [])) ≡ true
io_window_forwards = refl

io_window_that_is_off_forwards_nothing : forwards Io 0x100 (with_io 2 ((0x1c, 0xf0f0) ∷ [])) ≡ false
io_window_that_is_off_forwards_nothing = refl

-- ---- two bridges on the way: what both pass

abbrev upper : Function
upper = bridge (slot 0 1 0) 2 0x20100 ((0x20, 0xe010e000) ∷ (0x24, 0xe020e020) ∷ []) ((0x24, 0xfff0fff0) ∷ [])

abbrev lower : Function
lower = bridge (slot 1 0 0) 2 0x20201 ((0x20, 0xe020e010) ∷ []) []

abbrev passed : Bool → ℕ → Bool
passed prefetchable a = list_all (passes Memory prefetchable a) (upper ∷ lower ∷ [])

plain_bar_behind_both : map (passed false) (0xe00fffff ∷ 0xe0100000 ∷ 0xe01fffff ∷ 0xe0200000 ∷ []) ≡ false ∷ true ∷ true ∷ false ∷ []
plain_bar_behind_both = refl

prefetchable_bar_behind_both_may_lie_in_two_windows : map (passed true) (0xe00fffff ∷ 0xe0100000 ∷ 0xe01fffff ∷ 0xe0200000 ∷ 0xe02fffff ∷ 0xe0300000 ∷ []) ≡ false ∷ true ∷ true ∷ true ∷ true ∷ false ∷ []
prefetchable_bar_behind_both_may_lie_in_two_windows = refl

plain_bar_behind_the_first : map (λ a. passes Memory false a upper) (0xdfffffff ∷ 0xe0000000 ∷ 0xe01fffff ∷ 0xe0200000 ∷ []) ≡ false ∷ true ∷ true ∷ false ∷ []
plain_bar_behind_the_first = refl

prefetchable_bar_behind_the_first : map (λ a. passes Memory true a upper) (0xdfffffff ∷ 0xe0000000 ∷ 0xe02fffff ∷ 0xe0300000 ∷ []) ≡ false ∷ true ∷ true ∷ false ∷ []
prefetchable_bar_behind_the_first = refl
