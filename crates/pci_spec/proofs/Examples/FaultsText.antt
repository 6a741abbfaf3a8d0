-- The text of a list of all faults.
use Rattle.std.proofs.Common.{◌≡◌, ℕ, List, [], ◌∷◌, ◌++◌, codes, refl, true, false, ap, arith}
use Rattle.std.specs.Prelude.{slice_index_or}
use Rattle.std.specs.Fmt.{digits}
use Rattle.pci_spec.specs.Number.{each_from, some_from}
use Rattle.pci_spec.specs.System.{System, Memory}
use Rattle.pci_spec.specs.Fault.{Fault, OfProfile, VgaEnable, Unreached}
use Rattle.pci_spec.specs.Why.{scaled_text, IsWhy}
use Rattle.pci_spec.specs.FaultsText.{fault_line, is_judged, IsFaultsText}
use Rattle.pci_spec.proofs.Examples.Samples.{slot, device, host}

abbrev line : List ℕ → List ℕ
line text = text ++ 10 ∷ []

abbrev vga : Fault
vga = OfProfile VgaEnable (slot 0 2 0)

abbrev unreached : Fault
unreached = Unreached (slot 1 0 0) 0x10 Memory 0xe0000000 (slot 0 1 0)

-- a memory BAR that Command doesn't enable
abbrev off : System
off = device (slot 0 1 0) 0 ((0x10, 0xe0000000) ∷ []) ((0x10, 0xfff00000) ∷ []) ∷ []

lines_have_no_no : fault_line unreached ≡ line (codes "60 Unreached 01:00.0 10 mem 00000000e0000000 bridge 00:01.0")
lines_have_no_no = refl

-- ---- without reasons

each_fault_has_its_line : IsFaultsText [] host off false (vga ∷ unreached ∷ [])
    (line (codes "52 VgaEnable 00:02.0") ++ line (codes "60 Unreached 01:00.0 10 mem 00000000e0000000 bridge 00:01.0"))
each_fault_has_its_line = refl

no_fault_is_a_yes : IsFaultsText [] host off false [] (line (codes "yes"))
no_fault_is_a_yes = refl

yes_stands_alone : IsFaultsText [] host off false (vga ∷ []) (line (codes "52 VgaEnable 00:02.0") ++ line (codes "yes")) → ⊥
yes_stands_alone is = let letter = ap (λ t. slice_index_or t 22 0) is in omega (arith, letter)

-- ---- with reasons

abbrev what_is_off : List ℕ
what_is_off = line (codes "off 00:01.0 10 bar mem 00000000e0000000-00000000e00fffff 1M")

off_stands_behind_a_yes : IsFaultsText [] host off true [] (line (codes "yes") ++ what_is_off)
unfolding scaled_text digits each_from some_from
off_stands_behind_a_yes = record { lines = []; reasoned = refl; is = refl }

off_isnt_left_out : IsFaultsText [] host off true [] (line (codes "yes")) → ⊥
unfolding scaled_text digits each_from some_from
off_isnt_left_out text =
    let none = text.reasoned in
    let letter = ap (λ t. slice_index_or t 4 0) text.is in
    let same = ap (λ l. slice_index_or ((line (codes "yes") ++ l) ++ what_is_off) 4 0) none in
    omega (arith, letter, same)

nothing_behind : IsWhy [] host off vga []
nothing_behind = record { evidence = []; advice = []; told = refl; fits = refl; text = refl }

-- not every register of a system that judging didn't come to needs to decode
nothing_is_off_before_judging : IsFaultsText [] host off true (vga ∷ []) (line (codes "52 VgaEnable 00:02.0"))
nothing_is_off_before_judging = record {
  lines = line (codes "52 VgaEnable 00:02.0");
  reasoned = ([], [], nothing_behind, refl, refl);
  is = refl;
}

judging_looks_last : is_judged (unreached ∷ []) ≡ true
judging_looks_last = refl
