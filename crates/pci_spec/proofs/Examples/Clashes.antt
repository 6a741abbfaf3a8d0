-- Addresses that two regions claim.
use Rattle.std.proofs.Common.{◌≡◌, ℕ, zero, suc, List, [], ◌∷◌, refl, arith, lit<, lit≤, ap}
use Rattle.std.specs.List.{Contains}
use Rattle.pci_spec.specs.Number.{each_from}
use Rattle.pci_spec.specs.Slot.{Slot}
use Rattle.pci_spec.specs.Window.{MemoryWindow, PrefetchWindow}
use Rattle.pci_spec.specs.System.{Function, Io, Memory, Bar, Rom, Window, Claims}
use Rattle.pci_spec.specs.Fault.{IsIn, Clash, Split}
use Rattle.pci_spec.proofs.Bits.{interval-agrees}
use Rattle.pci_spec.proofs.Examples.Samples.{slot, device, bridge, host}

-- a device of bus 0 with memory BARs or with I/O BARs enabled
abbrev memory_device : ℕ → List (ℕ × ℕ) → List (ℕ × ℕ) → Function
memory_device d values masks = device (slot 0 d 0) 2 values masks

abbrev io_device : ℕ → List (ℕ × ℕ) → List (ℕ × ℕ) → Function
io_device d values masks = device (slot 0 d 0) 1 values masks

other_device : (a b : ℕ) → (a ≡ b → ⊥) → slot 0 a 0 ≡ slot 0 b 0 → ⊥
other_device a b differ same = differ (ap (λ (s : Slot). s.device) same)

-- ---- two BARs of one bus

abbrev pub large : Function
large = memory_device 1 ((0x10, 0xe0000000) ∷ []) ((0x10, 0xfff00000) ∷ [])

abbrev pub in_its_upper_half : Function
in_its_upper_half = memory_device 2 ((0x10, 0xe0080000) ∷ []) ((0x10, 0xfff80000) ∷ [])

large_claims : Claims large (Bar 0) Memory 0xe0080000
unfolding each_from
large_claims = record { there = refl; enabled = refl; maps = refl; address = lit< tt; decodes = (refl, (20, refl, interval-agrees 20 0xe0080000 0xe0000000 (lit≤ tt) (lit≤ tt))) }

upper_half_claims : Claims in_its_upper_half (Bar 0) Memory 0xe0080000
unfolding each_from
upper_half_claims = record { there = refl; enabled = refl; maps = refl; address = lit< tt; decodes = (refl, (19, refl, interval-agrees 19 0xe0080000 0xe0080000 (lit≤ tt) (lit≤ tt))) }

pub two_bars_overlap : IsIn host (large ∷ in_its_upper_half ∷ []) (Clash 0 Memory 0xe0080000 (slot 0 1 0) 0x10 (slot 0 2 0) 0x10)
two_bars_overlap = record {
  gets = (0, (0, lit< tt, refl), [], refl, refl);
  claims_first = (large, Bar 0, (0, lit< tt, refl), refl, refl, refl, large_claims);
  claims_second = (in_its_upper_half, Bar 0, (1, lit< tt, refl), refl, refl, refl, upper_half_claims);
  differ = λ same. other_device 1 2 (λ e. omega (arith, e)) same.0;
}

-- a BAR compares the bits above its mask, and those above 16 bits too
abbrev of_16_bits : Function
of_16_bits = io_device 1 ((0x10, 0xe001) ∷ []) ((0x10, 0xffe1) ∷ [])

abbrev of_32_bits : Function
of_32_bits = io_device 2 ((0x10, 0xe011) ∷ []) ((0x10, 0xfffffff1) ∷ [])

of_16_bits_claims : Claims of_16_bits (Bar 0) Io 0xe010
unfolding each_from
of_16_bits_claims = record { there = refl; enabled = refl; maps = refl; address = lit< tt; decodes = (refl, (5, refl, interval-agrees 5 0xe010 0xe001 (lit≤ tt) (lit≤ tt))) }

of_32_bits_claims : Claims of_32_bits (Bar 0) Io 0xe010
unfolding each_from
of_32_bits_claims = record { there = refl; enabled = refl; maps = refl; address = lit< tt; decodes = (refl, (4, refl, interval-agrees 4 0xe010 0xe011 (lit≤ tt) (lit≤ tt))) }

two_io_bars_overlap : IsIn host (of_16_bits ∷ of_32_bits ∷ []) (Clash 0 Io 0xe010 (slot 0 1 0) 0x10 (slot 0 2 0) 0x10)
two_io_bars_overlap = record {
  gets = (0, (0, lit< tt, refl), [], refl, refl);
  claims_first = (of_16_bits, Bar 0, (0, lit< tt, refl), refl, refl, refl, of_16_bits_claims);
  claims_second = (of_32_bits, Bar 0, (1, lit< tt, refl), refl, refl, refl, of_32_bits_claims);
  differ = λ same. other_device 1 2 (λ e. omega (arith, e)) same.0;
}

abbrev wide : Function
wide = memory_device 1 ((0x10, 0xf000000c) ∷ (0x14, 0xffffffff) ∷ []) ((0x10, 0xf000000c) ∷ (0x14, 0xffffffff) ∷ [])

abbrev at_the_very_end : Function
at_the_very_end = memory_device 2 ((0x10, 0xfff0000c) ∷ (0x14, 0xffffffff) ∷ []) ((0x10, 0xfff0000c) ∷ (0x14, 0xffffffff) ∷ [])

wide_claims : Claims wide (Bar 0) Memory 0xfffffffffff00000
unfolding each_from
wide_claims = record { there = refl; enabled = refl; maps = refl; address = lit< tt; decodes = (refl, (28, refl, interval-agrees 28 0xfffffffffff00000 0xfffffffff000000c (lit≤ tt) (lit≤ tt))) }

very_end_claims : Claims at_the_very_end (Bar 0) Memory 0xfffffffffff00000
unfolding each_from
very_end_claims = record { there = refl; enabled = refl; maps = refl; address = lit< tt; decodes = (refl, (20, refl, interval-agrees 20 0xfffffffffff00000 0xfffffffffff0000c (lit≤ tt) (lit≤ tt))) }

bars_at_the_end_of_memory_overlap : IsIn host (wide ∷ at_the_very_end ∷ []) (Clash 0 Memory 0xfffffffffff00000 (slot 0 1 0) 0x10 (slot 0 2 0) 0x10)
bars_at_the_end_of_memory_overlap = record {
  gets = (0, (0, lit< tt, refl), [], refl, refl);
  claims_first = (wide, Bar 0, (0, lit< tt, refl), refl, refl, refl, wide_claims);
  claims_second = (at_the_very_end, Bar 0, (1, lit< tt, refl), refl, refl, refl, very_end_claims);
  differ = λ same. other_device 1 2 (λ e. omega (arith, e)) same.0;
}

-- two small ones in a large one: the lower address belongs to the higher slot
abbrev around : Function
around = memory_device 1 ((0x10, 0xe0000000) ∷ []) ((0x10, 0xf0000000) ∷ [])

abbrev second_inside : Function
second_inside = memory_device 2 ((0x10, 0xe1000000) ∷ []) ((0x10, 0xfff00000) ∷ [])

abbrev first_inside : Function
first_inside = memory_device 3 ((0x10, 0xe0800000) ∷ []) ((0x10, 0xfff00000) ∷ [])

around_claims : Claims around (Bar 0) Memory 0xe0800000
unfolding each_from
around_claims = record { there = refl; enabled = refl; maps = refl; address = lit< tt; decodes = (refl, (28, refl, interval-agrees 28 0xe0800000 0xe0000000 (lit≤ tt) (lit≤ tt))) }

first_inside_claims : Claims first_inside (Bar 0) Memory 0xe0800000
unfolding each_from
first_inside_claims = record { there = refl; enabled = refl; maps = refl; address = lit< tt; decodes = (refl, (20, refl, interval-agrees 20 0xe0800000 0xe0800000 (lit≤ tt) (lit≤ tt))) }

bar_inside_another_overlaps : IsIn host (around ∷ second_inside ∷ first_inside ∷ []) (Clash 0 Memory 0xe0800000 (slot 0 1 0) 0x10 (slot 0 3 0) 0x10)
bar_inside_another_overlaps = record {
  gets = (0, (0, lit< tt, refl), [], refl, refl);
  claims_first = (around, Bar 0, (0, lit< tt, refl), refl, refl, refl, around_claims);
  claims_second = (first_inside, Bar 0, (2, lit< tt, refl), refl, refl, refl, first_inside_claims);
  differ = λ same. other_device 1 3 (λ e. omega (arith, e)) same.0;
}

-- ---- a BAR and the ROM of one function

abbrev with_rom : Function
with_rom = memory_device 1 ((0x10, 0xfe000000) ∷ (0x30, 0xfe000001) ∷ []) ((0x10, 0xfffff000) ∷ (0x30, 0xfffff800) ∷ [])

its_bar_claims : Claims with_rom (Bar 0) Memory 0xfe000000
unfolding each_from
its_bar_claims = record { there = refl; enabled = refl; maps = refl; address = lit< tt; decodes = (refl, (12, refl, interval-agrees 12 0xfe000000 0xfe000000 (lit≤ tt) (lit≤ tt))) }

its_rom_claims : Claims with_rom Rom Memory 0xfe000000
unfolding each_from
its_rom_claims = record { there = refl; enabled = refl; maps = refl; address = lit< tt; decodes = (11, refl, interval-agrees 11 0xfe000000 0xfe000001 (lit≤ tt) (lit≤ tt)) }

bar_and_rom_overlap : IsIn host (with_rom ∷ []) (Clash 0 Memory 0xfe000000 (slot 0 1 0) 0x10 (slot 0 1 0) 0x30)
bar_and_rom_overlap = record {
  gets = (0, (0, lit< tt, refl), [], refl, refl);
  claims_first = (with_rom, Bar 0, (0, lit< tt, refl), refl, refl, refl, its_bar_claims);
  claims_second = (with_rom, Rom, (0, lit< tt, refl), refl, refl, refl, its_rom_claims);
  differ = λ same. let e = same.1 in omega (arith, e);
}

-- ---- windows

abbrev first_window : Function
first_window = bridge (slot 0 1 0) 2 0x010100 ((0x20, 0xe010e000) ∷ []) []

abbrev second_window : Function
second_window = bridge (slot 0 2 0) 2 0x020200 ((0x20, 0xe010e010) ∷ []) []

windows_of_two_bridges_overlap : IsIn host (first_window ∷ second_window ∷ []) (Clash 0 Memory 0xe0100000 (slot 0 1 0) 0x20 (slot 0 2 0) 0x20)
windows_of_two_bridges_overlap = record {
  gets = (0, (0, lit< tt, refl), [], refl, refl);
  claims_first = (first_window, Window MemoryWindow, (0, lit< tt, refl), refl, refl, refl, record { there = refl; enabled = refl; maps = refl; address = lit< tt; decodes = refl });
  claims_second = (second_window, Window MemoryWindow, (1, lit< tt, refl), refl, refl, refl, record { there = refl; enabled = refl; maps = refl; address = lit< tt; decodes = refl });
  differ = λ same. other_device 1 2 (λ e. omega (arith, e)) same.0;
}

abbrev with_both_windows : Function
with_both_windows = bridge (slot 0 1 0) 2 0x010100 ((0x20, 0xe000e000) ∷ (0x24, 0xe000e000) ∷ []) ((0x24, 0xfff0fff0) ∷ [])

windows_of_one_bridge_overlap : IsIn host (with_both_windows ∷ []) (Clash 0 Memory 0xe0000000 (slot 0 1 0) 0x20 (slot 0 1 0) 0x24)
windows_of_one_bridge_overlap = record {
  gets = (0, (0, lit< tt, refl), [], refl, refl);
  claims_first = (with_both_windows, Window MemoryWindow, (0, lit< tt, refl), refl, refl, refl, record { there = refl; enabled = refl; maps = refl; address = lit< tt; decodes = refl });
  claims_second = (with_both_windows, Window PrefetchWindow, (0, lit< tt, refl), refl, refl, refl, record { there = refl; enabled = refl; maps = refl; address = lit< tt; decodes = refl });
  differ = λ same. let e = same.1 in omega (arith, e);
}

abbrev with_a_bar : Function
with_a_bar = bridge (slot 0 1 0) 2 0x010100 ((0x10, 0xe0000000) ∷ (0x20, 0xe000e000) ∷ []) ((0x10, 0xfffff000) ∷ [])

bridges_bar_claims : Claims with_a_bar (Bar 0) Memory 0xe0000000
unfolding each_from
bridges_bar_claims = record { there = refl; enabled = refl; maps = refl; address = lit< tt; decodes = (refl, (12, refl, interval-agrees 12 0xe0000000 0xe0000000 (lit≤ tt) (lit≤ tt))) }

bridges_bar_and_its_window_overlap : IsIn host (with_a_bar ∷ []) (Clash 0 Memory 0xe0000000 (slot 0 1 0) 0x10 (slot 0 1 0) 0x20)
bridges_bar_and_its_window_overlap = record {
  gets = (0, (0, lit< tt, refl), [], refl, refl);
  claims_first = (with_a_bar, Bar 0, (0, lit< tt, refl), refl, refl, refl, bridges_bar_claims);
  claims_second = (with_a_bar, Window MemoryWindow, (0, lit< tt, refl), refl, refl, refl, record { there = refl; enabled = refl; maps = refl; address = lit< tt; decodes = refl });
  differ = λ same. let e = same.1 in omega (arith, e);
}

-- registers that were never set: a window that is open at 0, and a BAR at 0
abbrev window_at_0 : Function
window_at_0 = bridge (slot 0 1 0) 2 0x010100 [] []

abbrev bar_at_0 : Function
bar_at_0 = memory_device 2 [] ((0x10, 0xfff00000) ∷ [])

bar_at_0_claims : Claims bar_at_0 (Bar 0) Memory 0
unfolding each_from
bar_at_0_claims = record { there = refl; enabled = refl; maps = refl; address = lit< tt; decodes = (refl, (20, refl, interval-agrees 20 0 0 (lit≤ tt) (lit≤ tt))) }

unset_registers_overlap_at_0 : IsIn host (window_at_0 ∷ bar_at_0 ∷ []) (Clash 0 Memory 0 (slot 0 1 0) 0x20 (slot 0 2 0) 0x10)
unset_registers_overlap_at_0 = record {
  gets = (0, (0, lit< tt, refl), [], refl, refl);
  claims_first = (window_at_0, Window MemoryWindow, (0, lit< tt, refl), refl, refl, refl, record { there = refl; enabled = refl; maps = refl; address = lit< tt; decodes = refl });
  claims_second = (bar_at_0, Bar 0, (1, lit< tt, refl), refl, refl, refl, bar_at_0_claims);
  differ = λ same. other_device 1 2 (λ e. omega (arith, e)) same.0;
}

-- a region doesn't clash with itself
one_region_alone : IsIn host (with_a_bar ∷ []) (Clash 0 Memory 0xe0000000 (slot 0 1 0) 0x20 (slot 0 1 0) 0x20) → ⊥
one_region_alone clash = clash.differ (refl, refl)

-- ---- two regions on two roots

abbrev on_root : ℕ → Function
on_root bus = device (slot bus 1 0) 2 ((0x10, 0xe0000000) ∷ []) ((0x10, 0xfff00000) ∷ [])

on_root_claims : (bus : ℕ) → Claims (on_root bus) (Bar 0) Memory 0xe0000000
unfolding each_from
on_root_claims bus = record { there = refl; enabled = refl; maps = refl; address = lit< tt; decodes = (refl, (20, refl, interval-agrees 20 0xe0000000 0xe0000000 (lit≤ tt) (lit≤ tt))) }

bars_of_two_roots_overlap : IsIn (0 ∷ 0x40 ∷ []) (on_root 0 ∷ on_root 0x40 ∷ []) (Split Memory 0xe0000000 (slot 0 1 0) 0x10 (slot 0x40 1 0) 0x10)
bars_of_two_roots_overlap = record {
  root_first = (0, lit< tt, refl);
  root_second = (1, lit< tt, refl);
  buses = λ e. omega (arith, e);
  claims_first = (on_root 0, Bar 0, (0, lit< tt, refl), refl, refl, refl, on_root_claims 0);
  claims_second = (on_root 0x40, Bar 0, (1, lit< tt, refl), refl, refl, refl, on_root_claims 0x40);
}

-- regions of one root are a clash and no split
no_split_on_one_root : (a : ℕ) (first second : ℕ) → IsIn host (large ∷ in_its_upper_half ∷ []) (Split Memory a (slot 0 1 0) first (slot 0 2 0) second) → ⊥
no_split_on_one_root a first second split = split.buses refl

not_root : Contains host 0x40 → ⊥
not_root (zero, less, is) = omega (arith, is)
not_root (suc k, less, is) = omega (arith, less)

-- bus 40h has to be a root
no_split_beside_a_bus_that_is_no_root : IsIn host (on_root 0 ∷ on_root 0x40 ∷ []) (Split Memory 0xe0000000 (slot 0 1 0) 0x10 (slot 0x40 1 0) 0x10) → ⊥
no_split_beside_a_bus_that_is_no_root split = not_root split.root_second
