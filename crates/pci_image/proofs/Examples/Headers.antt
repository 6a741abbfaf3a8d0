-- Which faults may be named, by the header alone.
use Rattle.std.proofs.Common.{◌≡◌, ℕ, true, if◌then◌else◌, List, replicate, refl, arith, ap}
use Rattle.std.specs.Prelude.{IsFalse}
use Rattle.pci_image.specs.declared.fault.ImageFault.TheVariants.{NoVendor, HeaderKind, BarMask, RomMask, WindowMask}
use Rattle.pci_image.specs.Faults.{HasNoHeaderFaultBefore}

-- 256 bytes, all alike: an absent function, a header of layout 2, and a device
abbrev absent : List ℕ
absent = replicate 256 0xff

abbrev other : List ℕ
other = replicate 256 0x02

abbrev device : List ℕ
device = replicate 256 0x00

-- what is there isn't absent
is_not : IsFalse true → ⊥
is_not e = let no : ◌≡◌ {A = ℕ} 1 0 = ap (λ b. if b then 1 else 0) e in omega (arith, no)

absent_function_has_none_before : HasNoHeaderFaultBefore absent NoVendor
absent_function_has_none_before = tt

absent_function_has_one_before_its_layout : HasNoHeaderFaultBefore absent HeaderKind → ⊥
absent_function_has_one_before_its_layout none = is_not none

absent_function_has_one_before_a_bar : HasNoHeaderFaultBefore absent (BarMask 0x10) → ⊥
absent_function_has_one_before_a_bar none = is_not none.0

other_layout_has_none_before : HasNoHeaderFaultBefore other HeaderKind
other_layout_has_none_before = refl

other_layout_comes_before_a_rom : HasNoHeaderFaultBefore other (RomMask 0x30) → ⊥
other_layout_comes_before_a_rom none = is_not none.1

other_layout_comes_before_a_window : HasNoHeaderFaultBefore other (WindowMask 0x1c) → ⊥
other_layout_comes_before_a_window none = is_not none.1

device_has_none_before_a_bar : HasNoHeaderFaultBefore device (BarMask 0x10)
device_has_none_before_a_bar = (refl, refl)
