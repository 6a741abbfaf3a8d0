-- Derived probes: what each register of a function reads back, by what it shows and what Linux tells of it.
use Rattle.std.proofs.Common.{◌≡◌, ℕ, List, [], ◌∷◌, refl, Option, None, Some, replicate, set, map}
use Rattle.pci_spec.specs.Number.{some_from}
use Rattle.pci_spec.specs.Resource.{ResourceLine, no_line, has_size, tells_bar, tells_rom}
use Rattle.pci_spec.specs.Derived.{bar_of_size, derived_bar, derived_rom, window_read_back, bar_register_derived, window_register_derived, register_derived, derived_probe, assumed_registers, register_offsets, read_back_of}
use Rattle.pci_spec.specs.NoProbe.{Nothing, Disabled, Any, NoProbe, NoSize, OtherSize, first_at, no_probe}
use Rattle.pci_spec.proofs.Examples.Samples.{puts, blank, zeros}

abbrev pub line : ℕ → ℕ → ℕ → ResourceLine
line first last flags = record { first = first; last = last; flags = flags }

-- seven lines of zeros but for one
abbrev pub lines : ℕ → ResourceLine → List ResourceLine
lines n l = set (replicate 7 no_line) n l

-- what the registers of a device and of a bridge read back, those that are assumed, and the fault of the function
pub record Answer : Type 0 where
  pub read_backs : List ℕ
  pub assumed : List ℕ
  pub fault : Option NoProbe

abbrev answer : List ℕ → List ResourceLine → Answer
answer image lines = record {
  read_backs = map (λ offset. read_back_of (register_derived image lines offset)) (register_offsets image);
  assumed = assumed_registers image lines;
  fault = no_probe Disabled image lines;
}

abbrev of_device : ℕ → List (ℕ × ℕ) → List ResourceLine → Answer
of_device command values lines = answer (puts values (blank 0 command)) lines

abbrev of_bridge : ℕ → List (ℕ × ℕ) → Answer
of_bridge command values = answer (puts values (blank 1 command)) (lines 0 no_line)

abbrev found : List ℕ → Answer
found read_backs = record { read_backs = read_backs; assumed = []; fault = None }

abbrev assumed : List ℕ → List ℕ → Answer
assumed read_backs registers = record { read_backs = read_backs; assumed = registers; fault = None }

-- a device's read backs where one register has one
abbrev only : ℕ → ℕ → List ℕ
only n read_back = set (replicate 7 0) n read_back

abbrev refused : NoProbe → Answer → Type 0
refused fault answer = answer.fault ≡ Some fault

-- ---- BARs whose sizes are told

a_memory_bar : of_device 0x0002 ((0x10, 0xfebc0000) ∷ []) (lines 0 (line 0xfebc0000 0xfebdffff 0x40200)) ≡ found (only 0 0xfffe0000)
unfolding some_from has_size tells_bar tells_rom bar_of_size derived_bar derived_rom window_read_back bar_register_derived window_register_derived register_derived assumed_registers first_at no_probe
a_memory_bar = refl

an_io_bar : of_device 0x0001 ((0x14, 0xc001) ∷ []) (lines 1 (line 0xc000 0xc03f 0x40101)) ≡ found (only 1 0xffffffc1)
unfolding some_from has_size tells_bar tells_rom bar_of_size derived_bar derived_rom window_read_back bar_register_derived window_register_derived register_derived assumed_registers first_at no_probe
an_io_bar = refl

a_prefetchable_bar_of_64_bits : of_device 0x0002 ((0x18, 0xf400000c) ∷ []) (lines 2 (line 0xf4000000 0xf7ffffff 0x14220c)) ≡ found (set (only 2 0xfc00000c) 3 0xffffffff)
unfolding some_from has_size tells_bar tells_rom bar_of_size derived_bar derived_rom window_read_back bar_register_derived window_register_derived register_derived assumed_registers first_at no_probe
a_prefetchable_bar_of_64_bits = refl

a_bar_above_4_gb : of_device 0x0002 ((0x10, 0x4) ∷ (0x14, 0x40) ∷ []) (lines 0 (line 0x4000000000 0x400007ffff 0x140204)) ≡ found (set (only 0 0xfff80004) 1 0xffffffff)
unfolding some_from has_size tells_bar tells_rom bar_of_size derived_bar derived_rom window_read_back bar_register_derived window_register_derived register_derived assumed_registers first_at no_probe
a_bar_above_4_gb = refl

a_bar_that_was_never_placed : of_device 0x0000 [] (lines 0 (line 0x0 0xfff 0x20040200)) ≡ found (only 0 0xfffff000)
unfolding some_from has_size tells_bar tells_rom bar_of_size derived_bar derived_rom window_read_back bar_register_derived window_register_derived register_derived assumed_registers first_at no_probe
a_bar_that_was_never_placed = refl

a_host_that_shifts_addresses : of_device 0x0002 ((0x10, 0xe0000000) ∷ []) (lines 0 (line 0x4e0000000 0x4e0000fff 0x40200)) ≡ found (only 0 0xfffff000)
unfolding some_from has_size tells_bar tells_rom bar_of_size derived_bar derived_rom window_read_back bar_register_derived window_register_derived register_derived assumed_registers first_at no_probe
a_host_that_shifts_addresses = refl

an_io_bar_of_1_kb_passes_through : of_device 0x0001 ((0x10, 0xc001) ∷ []) (lines 0 (line 0xc000 0xc3ff 0x40101)) ≡ found (only 0 0xfffffc01)
unfolding some_from has_size tells_bar tells_rom bar_of_size derived_bar derived_rom window_read_back bar_register_derived window_register_derived register_derived assumed_registers first_at no_probe
an_io_bar_of_1_kb_passes_through = refl

ports_of_an_ide_channel : of_device 0x0001 [] (lines 0 (line 0x1f0 0x1f7 0x110)) ≡ found (replicate 7 0)
unfolding some_from has_size tells_bar tells_rom bar_of_size derived_bar derived_rom window_read_back bar_register_derived window_register_derived register_derived assumed_registers first_at no_probe
ports_of_an_ide_channel = refl

a_bar_of_32_bits_that_was_never_placed_above_others : of_device 0x0000 [] (lines 3 (line 0x0 0x3ffffff 0x200)) ≡ found (only 3 0xfc000000)
unfolding some_from has_size tells_bar tells_rom bar_of_size derived_bar derived_rom window_read_back bar_register_derived window_register_derived register_derived assumed_registers first_at no_probe
a_bar_of_32_bits_that_was_never_placed_above_others = refl

a_bar_of_64_bits_that_was_never_placed : of_device 0x0000 ((0x18, 0xc) ∷ []) (lines 2 (line 0x0 0x3ffffff 0x20c)) ≡ found (set (only 2 0xfc00000c) 3 0xffffffff)
unfolding some_from has_size tells_bar tells_rom bar_of_size derived_bar derived_rom window_read_back bar_register_derived window_register_derived register_derived assumed_registers first_at no_probe
a_bar_of_64_bits_that_was_never_placed = refl

-- ---- BARs of which no size is told

a_size_of_another_encoding_than_the_register_shows : refused (NoSize 0x18) (of_device 0x0000 ((0x18, 0xc) ∷ []) (lines 2 (line 0x0 0x3ffffff 0x200)))
unfolding some_from has_size tells_bar tells_rom bar_of_size derived_bar derived_rom window_read_back bar_register_derived window_register_derived register_derived assumed_registers first_at no_probe
a_size_of_another_encoding_than_the_register_shows = refl

a_size_from_0_of_no_power_of_two : refused (OtherSize 0x10) (of_device 0x0000 [] (lines 0 (line 0x0 0x2ffffff 0x200)))
unfolding some_from has_size tells_bar tells_rom bar_of_size derived_bar derived_rom window_read_back bar_register_derived window_register_derived register_derived assumed_registers first_at no_probe
a_size_from_0_of_no_power_of_two = refl

an_enabled_bar_with_no_line : refused (NoSize 0x10) (of_device 0x0002 ((0x10, 0xe0000000) ∷ []) (lines 0 no_line))
unfolding some_from has_size tells_bar tells_rom bar_of_size derived_bar derived_rom window_read_back bar_register_derived window_register_derived register_derived assumed_registers first_at no_probe
an_enabled_bar_with_no_line = refl

an_enabled_bar_of_no_power_of_two : refused (NoSize 0x10) (of_device 0x0002 ((0x10, 0xe0000000) ∷ []) (lines 0 (line 0xe0000000 0xe0017fff 0x40200)))
unfolding some_from has_size tells_bar tells_rom bar_of_size derived_bar derived_rom window_read_back bar_register_derived window_register_derived register_derived assumed_registers first_at no_probe
an_enabled_bar_of_no_power_of_two = refl

an_enabled_bar_with_a_line_of_io : refused (NoSize 0x10) (of_device 0x0002 ((0x10, 0xe0000000) ∷ []) (lines 0 (line 0xc000 0xc03f 0x40101)))
unfolding some_from has_size tells_bar tells_rom bar_of_size derived_bar derived_rom window_read_back bar_register_derived window_register_derived register_derived assumed_registers first_at no_probe
an_enabled_bar_with_a_line_of_io = refl

an_enabled_bar_that_is_no_multiple : refused (NoSize 0x10) (of_device 0x0002 ((0x10, 0xe0001000) ∷ []) (lines 0 (line 0xe0000000 0xe000ffff 0x40200)))
unfolding some_from has_size tells_bar tells_rom bar_of_size derived_bar derived_rom window_read_back bar_register_derived window_register_derived register_derived assumed_registers first_at no_probe
an_enabled_bar_that_is_no_multiple = refl

an_enabled_bar_with_fixed_ports : refused (NoSize 0x10) (of_device 0x0001 ((0x10, 0x1) ∷ []) (lines 0 (line 0x1f0 0x1f7 0x110)))
unfolding some_from has_size tells_bar tells_rom bar_of_size derived_bar derived_rom window_read_back bar_register_derived window_register_derived register_derived assumed_registers first_at no_probe
an_enabled_bar_with_fixed_ports = refl

a_bar_that_is_not_enabled : refused (NoSize 0x10) (of_device 0x0000 ((0x10, 0xe0000000) ∷ []) (lines 0 no_line))
unfolding some_from has_size tells_bar tells_rom bar_of_size derived_bar derived_rom window_read_back bar_register_derived window_register_derived register_derived assumed_registers first_at no_probe
a_bar_that_is_not_enabled = refl

an_io_bar_that_is_not_enabled : refused (NoSize 0x14) (of_device 0x0002 ((0x14, 0xc001) ∷ []) (lines 0 no_line))
unfolding some_from has_size tells_bar tells_rom bar_of_size derived_bar derived_rom window_read_back bar_register_derived window_register_derived register_derived assumed_registers first_at no_probe
an_io_bar_that_is_not_enabled = refl

a_line_of_another_encoding : refused (OtherSize 0x10) (of_device 0x0000 [] (lines 0 (line 0xe0000000 0xe0000fff 0x140204)))
unfolding some_from has_size tells_bar tells_rom bar_of_size derived_bar derived_rom window_read_back bar_register_derived window_register_derived register_derived assumed_registers first_at no_probe
a_line_of_another_encoding = refl

-- ---- ROMs

a_rom : of_device 0x0002 ((0x30, 0xfebe0001) ∷ []) (lines 6 (line 0xfebe0000 0xfebeffff 0x46200)) ≡ found (only 6 0xffff0000)
unfolding some_from has_size tells_bar tells_rom bar_of_size derived_bar derived_rom window_read_back bar_register_derived window_register_derived register_derived assumed_registers first_at no_probe
a_rom = refl

a_rom_with_a_shadow_copy : of_device 0x0002 ((0x30, 0xfebe0000) ∷ []) (lines 6 (line 0xc0000 0xdffff 0x212)) ≡ assumed (only 6 0xfffff800) (0x30 ∷ [])
unfolding some_from has_size tells_bar tells_rom bar_of_size derived_bar derived_rom window_read_back bar_register_derived window_register_derived register_derived assumed_registers first_at no_probe
a_rom_with_a_shadow_copy = refl

a_rom_that_is_on_with_a_shadow_copy : refused (NoSize 0x30) (of_device 0x0002 ((0x30, 0xfebe0001) ∷ []) (lines 6 (line 0xc0000 0xdffff 0x212)))
unfolding some_from has_size tells_bar tells_rom bar_of_size derived_bar derived_rom window_read_back bar_register_derived window_register_derived register_derived assumed_registers first_at no_probe
a_rom_that_is_on_with_a_shadow_copy = refl

-- ---- windows, by the registers 10h, 14h, 1Ch, 20h, 24h, 28h, 2Ch, 30h and 38h

windows_that_show_0 : of_bridge 7 ((0x20, 0xfff0) ∷ []) ≡ assumed (0 ∷ 0 ∷ 0 ∷ 0xfff0fff0 ∷ 0 ∷ 0 ∷ 0 ∷ 0 ∷ 0 ∷ []) (0x1c ∷ 0x24 ∷ [])
unfolding some_from has_size tells_bar tells_rom bar_of_size derived_bar derived_rom window_read_back bar_register_derived window_register_derived register_derived assumed_registers first_at no_probe
windows_that_show_0 = refl

windows_that_show_0_where_nothing_is_enabled : of_bridge 0 ((0x20, 0xfff0) ∷ []) ≡ found (0 ∷ 0 ∷ 0 ∷ 0xfff0fff0 ∷ 0 ∷ 0 ∷ 0 ∷ 0 ∷ 0 ∷ [])
unfolding some_from has_size tells_bar tells_rom bar_of_size derived_bar derived_rom window_read_back bar_register_derived window_register_derived register_derived assumed_registers first_at no_probe
windows_that_show_0_where_nothing_is_enabled = refl

closed_windows_with_upper_halves : of_bridge 7 ((0x1c, 0x01f1) ∷ (0x20, 0xfff0) ∷ (0x24, 0x0001fff1) ∷ []) ≡ found (0 ∷ 0 ∷ 0xf1f1 ∷ 0xfff0fff0 ∷ 0xfff1fff1 ∷ 0xffffffff ∷ 0xffffffff ∷ 0xffffffff ∷ 0 ∷ [])
unfolding some_from has_size tells_bar tells_rom bar_of_size derived_bar derived_rom window_read_back bar_register_derived window_register_derived register_derived assumed_registers first_at no_probe
closed_windows_with_upper_halves = refl

open_windows : of_bridge 7 ((0x1c, 0xe0c0) ∷ (0x20, 0xfe90fe40) ∷ (0x24, 0xfbf1f401) ∷ []) ≡ found (0 ∷ 0 ∷ 0xf0f0 ∷ 0xfff0fff0 ∷ 0xfff1fff1 ∷ 0xffffffff ∷ 0xffffffff ∷ 0 ∷ 0 ∷ [])
unfolding some_from has_size tells_bar tells_rom bar_of_size derived_bar derived_rom window_read_back bar_register_derived window_register_derived register_derived assumed_registers first_at no_probe
open_windows = refl

-- ---- the least size of what is enabled and isn't told

abbrev with_least : ℕ → List (ℕ × ℕ) → Answer
with_least command values = record (of_device command values (lines 0 no_line)) { fault = no_probe Any (puts values (blank 0 command)) (lines 0 no_line) }

the_least_memory_bar : with_least 0x0002 ((0x10, 0xe0000008) ∷ []) ≡ assumed (only 0 0xfffffff8) (0x10 ∷ [])
unfolding some_from has_size tells_bar tells_rom bar_of_size derived_bar derived_rom window_read_back bar_register_derived window_register_derived register_derived assumed_registers first_at no_probe
the_least_memory_bar = refl

the_least_ports : with_least 0x0001 ((0x14, 0xc001) ∷ []) ≡ assumed (only 1 0xfffffffd) (0x14 ∷ [])
unfolding some_from has_size tells_bar tells_rom bar_of_size derived_bar derived_rom window_read_back bar_register_derived window_register_derived register_derived assumed_registers first_at no_probe
the_least_ports = refl

the_least_rom : with_least 0x0002 ((0x30, 0xfebe0001) ∷ []) ≡ assumed (only 6 0xfffff800) (0x30 ∷ [])
unfolding some_from has_size tells_bar tells_rom bar_of_size derived_bar derived_rom window_read_back bar_register_derived window_register_derived register_derived assumed_registers first_at no_probe
the_least_rom = refl

other_addresses_stay_refused : no_probe Any (blank 0 2) (lines 0 (line 0 0xfff 0x204)) ≡ Some (OtherSize 0x10)
unfolding some_from has_size tells_bar tells_rom bar_of_size derived_bar derived_rom window_read_back bar_register_derived window_register_derived register_derived assumed_registers first_at no_probe
other_addresses_stay_refused = refl

-- ---- the fault and the probe of a function

the_lowest_register_is_named : no_probe Disabled (puts ((0x14, 0xe0000000) ∷ []) (blank 0 2)) (set (lines 0 no_line) 5 (line 0 0xfff 0x204)) ≡ Some (NoSize 0x14)
unfolding some_from has_size tells_bar tells_rom bar_of_size derived_bar derived_rom window_read_back bar_register_derived window_register_derived register_derived assumed_registers first_at no_probe
the_lowest_register_is_named = refl

nothing_is_assumed_in_an_exact_probe : no_probe Nothing (puts ((0x20, 0xfff0) ∷ []) (blank 1 7)) (lines 0 no_line) ≡ Some (NoSize 0x1c)
unfolding some_from has_size tells_bar tells_rom bar_of_size derived_bar derived_rom window_read_back bar_register_derived window_register_derived register_derived assumed_registers first_at no_probe
nothing_is_assumed_in_an_exact_probe = refl

bytes_of_a_probe : derived_probe (puts ((0x10, 0xfebc0000) ∷ []) (blank 0 2)) (lines 0 (line 0xfebc0000 0xfebdffff 0x40200)) ≡ puts ((0x10, 0xfffe0000) ∷ []) zeros
unfolding some_from has_size tells_bar tells_rom bar_of_size derived_bar derived_rom window_read_back bar_register_derived window_register_derived register_derived assumed_registers first_at no_probe derived_probe
bytes_of_a_probe = refl
