-- The lines of a function's decoding, put together.
use Rattle.std.proofs.Common.{◌≡◌, ℕ, zero, suc, ◌<◌, List, [], ◌∷◌, get_or, arith, Option, None}
use Rattle.std.specs.Prelude.{IsFalse, MatchOption, ◌==◌, ◌&&◌}
use Rattle.std.specs.Bool.{then_some}
use Rattle.pci_spec.specs.Header.{bar_count, layout}
use Rattle.pci_spec.specs.Bar.{bar_fault}
use Rattle.pci_spec.specs.Rom.{breaks_rom_rule}
use Rattle.pci_spec.specs.Window.{WindowKind, IoWindow, MemoryWindow, PrefetchWindow, window_register, breaks_window_rule}
use Rattle.pci_spec.specs.Capability.{HasChain}
use Rattle.pci_spec.specs.System.{Function}
use Rattle.pci_function.specs.declared.fault.Fault.{Fault as FaultOfCode}
use Rattle.pci_function.specs.declared.fault.Fault.TheVariants as codes
use Rattle.pci_function.specs.Fault.{fault_of}
use Rattle.pci_faults.specs.OwnLines.{IsOwnLine, IsBeforeIn, AreOwnLines}
use Rattle.pci_faults.specs.Registers.{IsBarTold, IsRomTold, IsListTold}
use Rattle.pci_faults.proofs.Lists.{IsOnly, told_by_place}
use Rattle.pci_faults.proofs.OfLists.{list_only}
use Rattle.pci_faults.proofs.OfRegisters.{place_of, IsAt, places_rise, place_within, bar_only, rom_only, window_only}

-- what is told of BAR register n
abbrev pub IsToldOfBar : Function → ℕ → Option FaultOfCode → Type 0
IsToldOfBar f n o = MatchOption o (n < bar_count (layout f.image) → bar_fault f.image f.probe n ≡ None) (λ x. IsBarTold f.slot f.image f.probe n (fault_of x))

abbrev pub window_told : Function → WindowKind → Option FaultOfCode
window_told f kind = then_some (layout f.image == 1 && breaks_window_rule kind f.image f.probe) (codes.WindowMask f.slot (window_register kind))

module _ (f : Function) (a0 a1 a2 a3 a4 a5 rom list : Option FaultOfCode) (is0 : IsToldOfBar f 0 a0) (is1 : IsToldOfBar f 1 a1) (is2 : IsToldOfBar f 2 a2)
    (is3 : IsToldOfBar f 3 a3) (is4 : IsToldOfBar f 4 a4) (is5 : IsToldOfBar f 5 a5)
    (rom_is : MatchOption rom (IsFalse (breaks_rom_rule f.image f.probe)) (λ x. IsRomTold f.slot f.image f.probe (fault_of x)))
    (list_is : MatchOption list (HasChain f.image) (λ x. IsListTold f.slot f.image (fault_of x))) where
  abbrev decoding_list : List (Option FaultOfCode)
  decoding_list = a0 ∷ a1 ∷ a2 ∷ a3 ∷ a4 ∷ a5 ∷ rom ∷ window_told f IoWindow ∷ window_told f MemoryWindow ∷ window_told f PrefetchWindow ∷ list ∷ []

  only_at : (j : ℕ) → j < 11 → IsOnly (IsAt f j) (get_or decoding_list j None)
  only_at zero less = bar_only f 0 a0 (omega arith) is0
  only_at (suc zero) less = bar_only f 1 a1 (omega arith) is1
  only_at (suc (suc zero)) less = bar_only f 2 a2 (omega arith) is2
  only_at (suc (suc (suc zero))) less = bar_only f 3 a3 (omega arith) is3
  only_at (suc (suc (suc (suc zero)))) less = bar_only f 4 a4 (omega arith) is4
  only_at (suc (suc (suc (suc (suc zero))))) less = bar_only f 5 a5 (omega arith) is5
  only_at (suc (suc (suc (suc (suc (suc zero)))))) less = rom_only f rom rom_is
  only_at (suc (suc (suc (suc (suc (suc (suc zero))))))) less = window_only f IoWindow
  only_at (suc (suc (suc (suc (suc (suc (suc (suc zero)))))))) less = window_only f MemoryWindow
  only_at (suc (suc (suc (suc (suc (suc (suc (suc (suc zero))))))))) less = window_only f PrefetchWindow
  only_at (suc (suc (suc (suc (suc (suc (suc (suc (suc (suc zero)))))))))) less = list_only f list list_is
  only_at (suc (suc (suc (suc (suc (suc (suc (suc (suc (suc (suc j))))))))))) less = absurd (let no : ⊥ = omega (arith, less) in no)

  pub decoding_lines : AreOwnLines 2 f decoding_list
  decoding_lines = told_by_place (IsBeforeIn f) (IsOwnLine 2 f) place_of (λ a b is_a is_b less. places_rise f a b is_a is_b less) decoding_list (place_within f) only_at
