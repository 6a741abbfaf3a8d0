-- Lines that are true of a function's own probe, and what goes wrong where one of them isn't.
use Rattle.std.proofs.Common.{◌≡◌, ◌↔◌, ℕ, zero, suc, ◌<◌, List, [], ◌∷◌, refl, Bool, true, false, ◌&&◌, None, set, arith, lit<}
use Rattle.std.specs.Bool.{nat_lt}
use Rattle.std.proofs.lemmas.Bool.{and_parts, both_ways, ltb-true}
use Rattle.pci_spec.specs.Number.{each_from, some_from}
use Rattle.pci_spec.specs.Bar.{bar_fault, has_bar}
use Rattle.pci_spec.specs.Window.{WindowKind, IoWindow, has_window}
use Rattle.pci_spec.specs.Rom.{rom_at, has_rom}
use Rattle.pci_spec.specs.Text.{Block}
use Rattle.pci_spec.specs.System.{Function, IsFunction, system_of}
use Rattle.pci_spec.specs.Decoded.{bar_size, rom_size}
use Rattle.pci_spec.specs.Resource.{ResourceLine, no_line, line_at, rom_line, address_count, has_size, tells_bar, tells_rom}
use Rattle.pci_spec.specs.Derived.{bar_of_size, derived_bar, derived_rom, window_read_back, bar_register_derived, window_register_derived, register_derived, derived_probe}
use Rattle.pci_spec.specs.NoProbe.{Disabled, first_at, no_probe}
use Rattle.pci_spec.specs.SizesText.{SizesBlock}
use Rattle.pci_spec.specs.ProbeOf.{first_of, probe_of, probe_fault}
use Rattle.pci_spec.specs.Sound.{IsSound}
use Rattle.pci_spec.specs.ToldAlike.{IsToldAlike, IsReadable}
use Rattle.pci_spec.specs.TrueLines.{IsTrueOf, is_told_bar, is_untold_bar, is_untold_window}
use Rattle.pci_spec.specs.DerivedLaws.{with_derived, IsDerivedOf}
use Rattle.pci_spec.proofs.DerivedSystems.{derived_is_told_alike}
use Rattle.pci_spec.proofs.DerivedDumps.{dump_has_the_same_verdict}
use Rattle.pci_spec.proofs.Examples.Samples.{slot, device, host}
use Rattle.pci_spec.proofs.Examples.Texts.{bytes_by}
use Rattle.pci_spec.proofs.Examples.DerivedProbes.{line, lines}
use Rattle.pci_spec.proofs.Examples.ToldAlike.{no, six, reads, side_by_side, one_in_the_other, without_window, with_window, readable_with, all_readable, system_alone}

-- ---- a BAR of 4 KB and a ROM of 64 KB, both told

abbrev told_device : Function
told_device = device (slot 0 1 0) 2 ((0x10, 0xe0000000) ∷ (0x30, 0xfebe0001) ∷ []) ((0x10, 0xfffff000) ∷ (0x30, 0xffff0000) ∷ [])

abbrev told_lines : List ResourceLine
told_lines = set (lines 0 (line 0xe0000000 0xe0000fff 0x40200)) 6 (line 0xfebe0000 0xfebeffff 0x46200)

abbrev Sized : ℕ → Type 0
Sized n = is_told_bar told_device.image told_lines n ≡ true → (has_bar told_device.probe n ≡ true) × (bar_size told_device.probe n ≡ address_count (line_at told_lines n))

below_six : (n : ℕ) (x y : Bool) → (nat_lt n 6 && x && y) ≡ true → n < 6
below_six n x y h = ltb-true n 6 (and_parts (nat_lt n 6) x (and_parts (nat_lt n 6 && x) y h).0).0

true_lines : IsTrueOf told_lines told_device.image told_device.probe
unfolding some_from has_size tells_bar tells_rom
true_lines = record {
  bars = λ n h. six Sized (λ h. (refl, refl)) (λ h. no h) (λ h. no h) (λ h. no h) (λ h. no h) (λ h. no h) n (below_six n _ _ h) h;
  rom = λ h. (refl, refl);
  no_bars = λ n h. six (λ n. is_untold_bar told_device.image told_lines n ≡ true → has_bar told_device.probe n ≡ false)
      (λ h. no h) (λ h. refl) (λ h. refl) (λ h. refl) (λ h. refl) (λ h. refl) n (below_six n _ _ (and_parts _ _ (and_parts _ _ h).0).0) h;
  no_windows = λ kind h. no h;
}

readable : IsReadable told_device
unfolding each_from some_from
readable = reads told_device refl refl refl (six (λ n. bar_fault told_device.image told_device.probe n ≡ None) refl refl refl refl refl refl) refl

function : IsFunction told_device
function = record { slot = (lit< tt, lit< tt, lit< tt); image = record { full = refl; bytes = bytes_by told_device.image refl }; probe = record { full = refl; bytes = bytes_by told_device.probe refl } }

derived : IsDerivedOf Disabled told_device (with_derived told_lines told_device)
unfolding some_from has_size tells_bar tells_rom bar_of_size derived_bar derived_rom window_read_back bar_register_derived window_register_derived register_derived first_at no_probe
derived = record { lines = told_lines; told = true_lines; derivable = refl; derived = refl }

-- so by the law
told_alike : IsReadable (with_derived told_lines told_device) × IsToldAlike told_device (with_derived told_lines told_device)
told_alike = derived_is_told_alike told_device (with_derived told_lines told_device) function readable derived

-- the dump of that device alone, what its registers read back, and what is told of it
abbrev one_block : List ℕ → List Block
one_block bytes = record { slot = slot 0 1 0; title = None; image = bytes } ∷ []

abbrev one_told : List SizesBlock
one_told = record { slot = slot 0 1 0; lines = told_lines } ∷ []

same_word : IsSound host (told_device ∷ []) ↔ IsSound host (system_of (one_block told_device.image) (probe_of (one_block told_device.image) one_told))
unfolding some_from has_size tells_bar tells_rom bar_of_size derived_bar derived_rom window_read_back bar_register_derived window_register_derived register_derived first_at no_probe first_of probe_fault
same_word = (dump_has_the_same_verdict host Disabled (one_block told_device.image) (one_block told_device.probe) one_told refl refl (system_alone told_device function) (all_readable told_device readable) (true_lines, tt) refl).1

-- ---- where one premise fails and the others hold, the function isn't told alike

abbrev Bars : Function → List ResourceLine → Type 0
Bars f lines = (n : ℕ) → is_told_bar f.image lines n ≡ true → (has_bar f.probe n ≡ true) × (bar_size f.probe n ≡ address_count (line_at lines n))

abbrev NoBars : Function → List ResourceLine → Type 0
NoBars f lines = (n : ℕ) → is_untold_bar f.image lines n ≡ true → has_bar f.probe n ≡ false

abbrev TrueRom : Function → List ResourceLine → Type 0
TrueRom f lines = tells_rom (rom_line lines) (rom_at f.image f.image) ≡ true → (has_rom f.image f.probe ≡ true) × (rom_size f.image f.probe ≡ address_count (rom_line lines))

abbrev NoWindows : Function → Type 0
NoWindows f = (kind : WindowKind) → is_untold_window kind f.image ≡ true → has_window kind f.probe ≡ false

abbrev Derives : Function → List ResourceLine → Type 0
Derives f lines = no_probe Disabled f.image lines ≡ None

abbrev Differs : Function → List ResourceLine → Type 0
Differs f lines = IsToldAlike f (with_derived lines f) → ⊥

abbrev plain_device : List (ℕ × ℕ) → List (ℕ × ℕ) → Function
plain_device values masks = device (slot 0 1 0) 2 values masks

-- 4 KB are told of a BAR of 8 KB
abbrev of_8_kb : Function
of_8_kb = plain_device ((0x10, 0xe0000000) ∷ []) ((0x10, 0xffffe000) ∷ [])

abbrev line_of_4_kb : List ResourceLine
line_of_4_kb = lines 0 (line 0xe0000000 0xe0000fff 0x40200)

others_of_8_kb : IsReadable of_8_kb × TrueRom of_8_kb line_of_4_kb × NoBars of_8_kb line_of_4_kb × NoWindows of_8_kb × Derives of_8_kb line_of_4_kb
unfolding each_from some_from has_size tells_bar tells_rom bar_of_size derived_bar derived_rom window_read_back bar_register_derived window_register_derived register_derived first_at no_probe
others_of_8_kb = (
  reads of_8_kb refl refl refl (six (λ n. bar_fault of_8_kb.image of_8_kb.probe n ≡ None) refl refl refl refl refl refl) refl,
  λ h. no h,
  λ n h. six (λ n. is_untold_bar of_8_kb.image line_of_4_kb n ≡ true → has_bar of_8_kb.probe n ≡ false)
      (λ h. no h) (λ h. refl) (λ h. refl) (λ h. refl) (λ h. refl) (λ h. refl) n (below_six n _ _ (and_parts _ _ (and_parts _ _ h).0).0) h,
  λ kind h. no h,
  refl,
)

another_size : Differs of_8_kb line_of_4_kb
unfolding some_from has_size tells_bar tells_rom bar_of_size derived_bar derived_rom window_read_back bar_register_derived window_register_derived register_derived derived_probe
another_size h = let e : 8192 ≡ 4096 = h.bar_sizes 0 refl refl in omega (arith, e)

-- 128 KB are told of a ROM of 64 KB
abbrev rom_of_64_kb : Function
rom_of_64_kb = plain_device ((0x30, 0xfebe0001) ∷ []) ((0x30, 0xffff0000) ∷ [])

abbrev line_of_128_kb : List ResourceLine
line_of_128_kb = lines 6 (line 0xfebe0000 0xfebfffff 0x46200)

others_of_rom : IsReadable rom_of_64_kb × Bars rom_of_64_kb line_of_128_kb × NoBars rom_of_64_kb line_of_128_kb × NoWindows rom_of_64_kb × Derives rom_of_64_kb line_of_128_kb
unfolding each_from some_from has_size tells_bar tells_rom bar_of_size derived_bar derived_rom window_read_back bar_register_derived window_register_derived register_derived first_at no_probe
others_of_rom = (
  reads rom_of_64_kb refl refl refl (six (λ n. bar_fault rom_of_64_kb.image rom_of_64_kb.probe n ≡ None) refl refl refl refl refl refl) refl,
  λ n h. six (λ n. is_told_bar rom_of_64_kb.image line_of_128_kb n ≡ true → (has_bar rom_of_64_kb.probe n ≡ true) × (bar_size rom_of_64_kb.probe n ≡ address_count (line_at line_of_128_kb n)))
      (λ h. no h) (λ h. no h) (λ h. no h) (λ h. no h) (λ h. no h) (λ h. no h) n (below_six n _ _ h) h,
  λ n h. six (λ n. is_untold_bar rom_of_64_kb.image line_of_128_kb n ≡ true → has_bar rom_of_64_kb.probe n ≡ false)
      (λ h. refl) (λ h. refl) (λ h. refl) (λ h. refl) (λ h. refl) (λ h. refl) n (below_six n _ _ (and_parts _ _ (and_parts _ _ h).0).0) h,
  λ kind h. no h,
  refl,
)

another_rom_size : Differs rom_of_64_kb line_of_128_kb
unfolding some_from has_size tells_bar tells_rom bar_of_size derived_bar derived_rom window_read_back bar_register_derived window_register_derived register_derived derived_probe
another_rom_size h = let e : 65536 ≡ 131072 = h.rom refl in omega (arith, e)

-- nothing is told of a BAR of 4 KB that is enabled at address 0
abbrev at_zero : Function
at_zero = plain_device [] ((0x10, 0xfffff000) ∷ [])

abbrev no_lines : List ResourceLine
no_lines = lines 0 no_line

others_at_zero : IsReadable at_zero × Bars at_zero no_lines × TrueRom at_zero no_lines × NoWindows at_zero × Derives at_zero no_lines
unfolding each_from some_from has_size tells_bar tells_rom bar_of_size derived_bar derived_rom window_read_back bar_register_derived window_register_derived register_derived first_at no_probe
others_at_zero = (
  reads at_zero refl refl refl (six (λ n. bar_fault at_zero.image at_zero.probe n ≡ None) refl refl refl refl refl refl) refl,
  λ n h. six (λ n. is_told_bar at_zero.image no_lines n ≡ true → (has_bar at_zero.probe n ≡ true) × (bar_size at_zero.probe n ≡ address_count (line_at no_lines n)))
      (λ h. no h) (λ h. no h) (λ h. no h) (λ h. no h) (λ h. no h) (λ h. no h) n (below_six n _ _ h) h,
  λ h. no h,
  λ kind h. no h,
  refl,
)

an_untold_bar : Differs at_zero no_lines
unfolding some_from has_size tells_bar tells_rom bar_of_size derived_bar derived_rom window_read_back bar_register_derived window_register_derived register_derived derived_probe
an_untold_bar h = both_ways true (h.bars 0 refl) refl

-- nothing is told of one that is enabled elsewhere, so that no probe is derived
abbrev without_size : Function
without_size = plain_device ((0x10, 0xe0000000) ∷ []) ((0x10, 0xfffff000) ∷ [])

others_without_size : IsReadable without_size × Bars without_size no_lines × TrueRom without_size no_lines × NoBars without_size no_lines × NoWindows without_size
unfolding each_from some_from has_size tells_bar tells_rom bar_of_size derived_bar derived_rom window_read_back bar_register_derived window_register_derived register_derived
others_without_size = (
  reads without_size refl refl refl (six (λ n. bar_fault without_size.image without_size.probe n ≡ None) refl refl refl refl refl refl) refl,
  λ n h. six (λ n. is_told_bar without_size.image no_lines n ≡ true → (has_bar without_size.probe n ≡ true) × (bar_size without_size.probe n ≡ address_count (line_at no_lines n)))
      (λ h. no h) (λ h. no h) (λ h. no h) (λ h. no h) (λ h. no h) (λ h. no h) n (below_six n _ _ h) h,
  λ h. no h,
  λ n h. six (λ n. is_untold_bar without_size.image no_lines n ≡ true → has_bar without_size.probe n ≡ false)
      (λ h. no h) (λ h. refl) (λ h. refl) (λ h. refl) (λ h. refl) (λ h. refl) n (below_six n _ _ (and_parts _ _ (and_parts _ _ h).0).0) h,
  λ kind h. no h,
)

a_bar_without_a_size : Differs without_size no_lines
unfolding some_from has_size tells_bar tells_rom bar_of_size derived_bar derived_rom window_read_back bar_register_derived window_register_derived register_derived derived_probe
a_bar_without_a_size h = let size : 4096 ≡ 16 = h.bar_sizes 0 refl refl in omega (arith, size)

-- an I/O window shows 0, and is there
abbrev line_of_64_ports : List ResourceLine
line_of_64_ports = lines 0 (line 0xc00 0xc3f 0x40101)

below_two : (n : ℕ) (x y : Bool) → (nat_lt n 2 && x && y) ≡ true → n < 2
below_two n x y h = ltb-true n 2 (and_parts (nat_lt n 2) x (and_parts (nat_lt n 2 && x) y h).0).0

two : (P : ℕ → Type 0) → P 0 → P 1 → (n : ℕ) → n < 2 → P n
two P a b zero less = a
two P a b (suc zero) less = b
two P a b (suc (suc n)) less = absurd (let contradiction : ⊥ = omega (arith, less) in contradiction)

others_with_window : IsReadable with_window × Bars with_window line_of_64_ports × TrueRom with_window line_of_64_ports × NoBars with_window line_of_64_ports × Derives with_window line_of_64_ports
unfolding each_from some_from has_size tells_bar tells_rom bar_of_size derived_bar derived_rom window_read_back bar_register_derived window_register_derived register_derived first_at no_probe
others_with_window = (
  readable_with,
  λ n h. two (λ n. is_told_bar with_window.image line_of_64_ports n ≡ true → (has_bar with_window.probe n ≡ true) × (bar_size with_window.probe n ≡ address_count (line_at line_of_64_ports n)))
      (λ h. (refl, refl)) (λ h. no h) n (below_two n _ _ h) h,
  λ h. no h,
  λ n h. two (λ n. is_untold_bar with_window.image line_of_64_ports n ≡ true → has_bar with_window.probe n ≡ false)
      (λ h. no h) (λ h. no h) n (below_two n _ _ (and_parts _ _ (and_parts _ _ h).0).0) h,
  refl,
)

an_open_window : Differs with_window line_of_64_ports
unfolding some_from has_size tells_bar tells_rom bar_of_size derived_bar derived_rom window_read_back bar_register_derived window_register_derived register_derived derived_probe
an_open_window h = both_ways true (h.windows IoWindow refl) refl

-- The verdict hangs on it: with its own probe the bridge clashes with its window, and with the derived one it doesn't.
the_probe_without_the_window : derived_probe with_window.image line_of_64_ports ≡ without_window.probe
unfolding some_from has_size tells_bar tells_rom bar_of_size derived_bar derived_rom window_read_back bar_register_derived window_register_derived register_derived derived_probe
the_probe_without_the_window = refl

-- And it hangs on sizes: BARs of 8 and 4 KB clash, and those of 4 and 4 KB don't.
the_probe_side_by_side : derived_probe one_in_the_other.image (set line_of_4_kb 1 (line 0xe0001000 0xe0001fff 0x40200)) ≡ side_by_side.probe
unfolding some_from has_size tells_bar tells_rom bar_of_size derived_bar derived_rom window_read_back bar_register_derived window_register_derived register_derived derived_probe
the_probe_side_by_side = refl
