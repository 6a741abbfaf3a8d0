-- Functions and systems with derived probes.
use Rattle.std.proofs.Common.{◌≡◌, zero, suc, List, [], ◌∷◌, map, false, None, refl, arith, sym, ◌∙◌, ap, subst}
use Rattle.std.specs.Bool.{◌==◌, IsTrue}
use Rattle.std.specs.List.{All, AllZip}
use Rattle.std.proofs.lemmas.Bool.{and_parts, eqb-true}
use Rattle.pci_spec.specs.Number.{has_bit}
use Rattle.pci_spec.specs.Slot.{IsRising}
use Rattle.pci_spec.specs.Header.{command, layout}
use Rattle.pci_spec.specs.Window.{WindowKind, has_window}
use Rattle.pci_spec.specs.System.{System, Function, IsFunction, IsSystem}
use Rattle.pci_spec.specs.Decoded.{IsDecodable}
use Rattle.pci_spec.specs.Resource.{ResourceLine}
use Rattle.pci_spec.specs.Derived.{window_enable, derived_probe}
use Rattle.pci_spec.specs.NoProbe.{Assuming, Disabled, Any, assumes_enabled, no_probe}
use Rattle.pci_spec.specs.ToldAlike.{enables_window, IsToldAlike, IsToldAtLeast, IsReadable}
use Rattle.pci_spec.specs.TrueLines.{IsTrueOf}
use Rattle.pci_spec.specs.DerivedLaws.{with_derived, HaveSameBar, IsDerivedOf, DerivedIsToldAlike, DerivedSizesAreOwn, DerivedHasTheSameFaults, DerivedHasTheSameFirstFault, DerivedIsSoundWithOwn, LeastIsToldAtMost, FaultsAtLeastSizesStand}
use Rattle.pci_spec.proofs.DerivedBytes.{derived_image, none_stray}
use Rattle.pci_spec.proofs.ToldBars.{all_sizes, derived_bars_fine, same_bars, same_sizes, least_sizes}
use Rattle.pci_spec.proofs.ToldRoms.{derived_rom_fine, same_rom, least_rom}
use Rattle.pci_spec.proofs.ToldWindows.{derived_window_fine, same_window}
use Rattle.pci_spec.proofs.ToldSystems.{greater_have_the_faults, alike_have_the_same_faults, alike_have_the_same_first_fault, alike_are_sound_together}

-- ---- a function

module _ (f : Function) (lines : List ResourceLine) (is : IsFunction f) (readable : IsReadable f) (told : IsTrueOf lines f.image f.probe) (assuming : Assuming) (none : no_probe assuming f.image lines ≡ None) where
  good : IsDecodable f
  good = readable.decodable

  with_derived_readable : IsReadable (with_derived lines f)
  with_derived_readable = record {
    decodable = record {
      vendor = good.vendor;
      header = good.header;
      bars = derived_bars_fine f lines is.image good told assuming none;
      rom = derived_rom_fine f lines is.image good told assuming none;
      windows = λ kind bridge. derived_window_fine f lines good told bridge kind;
    };
    clean = none_stray f.image lines;
  }

  same_windows : (kind : WindowKind) → IsTrue (enables_window kind f.image) → has_window kind f.probe ≡ has_window kind (derived_probe f.image lines)
  same_windows kind on = same_window f lines good told (eqb-true (layout f.image) 1 (and_parts (layout f.image == 1) (has_bit (command f.image) (window_enable kind)) on).0) kind on

  with_derived_alike : assumes_enabled assuming ≡ false → IsToldAlike f (with_derived lines f)
  with_derived_alike exact = record {
    slot = refl;
    image = refl;
    bars = same_bars f lines is.image good told assuming none;
    bar_sizes = same_sizes f lines is.image good told assuming none exact;
    rom = same_rom f lines is.image good told assuming none exact;
    windows = same_windows;
  }

  with_derived_least : IsToldAtLeast (with_derived lines f) f
  with_derived_least = record {
    slot = refl;
    image = refl;
    bars = λ n on. sym (same_bars f lines is.image good told assuming none n on);
    bar_sizes = λ n on there. least_sizes f lines is.image good told assuming none n on (same_bars f lines is.image good told assuming none n on ∙ there);
    rom = least_rom f lines is.image good told assuming none;
    windows = λ kind on. sym (same_windows kind on);
  }

abbrev IsMate : Function → Function → Type 0
IsMate f g = IsReadable g × IsToldAlike f g

pub derived_is_told_alike : DerivedIsToldAlike
derived_is_told_alike f g is readable d =
    subst (IsMate f) (sym d.derived) (
      with_derived_readable f d.lines is readable d.told Disabled d.derivable,
      with_derived_alike f d.lines is readable d.told Disabled d.derivable refl,
    )

pub derived_sizes_are_own : DerivedSizesAreOwn
derived_sizes_are_own f g n is readable d less starts some =
    let same = all_sizes f d.lines is.image readable.decodable d.told Disabled d.derivable refl n less starts some in
    subst (λ h. HaveSameBar f h n) (sym d.derived) record { own = same.0; derived = same.1; size = same.2 }

abbrev IsLesser : Function → Function → Type 0
IsLesser f g = IsReadable g × IsToldAtLeast g f

pub least_is_told_at_most : LeastIsToldAtMost
least_is_told_at_most f g is readable d =
    subst (IsLesser f) (sym d.derived) (
      with_derived_readable f d.lines is readable d.told Any d.derivable,
      with_derived_least f d.lines is readable d.told Any d.derivable,
    )

-- ---- systems

-- what goes with each function of a system goes with all
each_mate : (P Q : Function → Function → Type 0) → ((f g : Function) → IsFunction f → IsReadable f → P f g → Q f g)
    → (s t : System) → All IsFunction s → All IsReadable s → AllZip P s t → AllZip Q s t
each_mate P Q law [] [] is readable pairs = pairs
each_mate P Q law [] (g ∷ t) is readable pairs = pairs
each_mate P Q law (f ∷ s) [] is readable pairs = pairs
each_mate P Q law (f ∷ s) (g ∷ t) is readable pairs = (
  law f g (is 0 f (omega arith)) (readable 0 f (omega arith)) pairs.0,
  each_mate P Q law s t (λ k d less. is (suc k) d (omega (arith, less))) (λ k d less. readable (suc k) d (omega (arith, less))) pairs.1,
)

mates : (s t : System) → All IsFunction s → All IsReadable s → AllZip (IsDerivedOf Disabled) s t → AllZip IsMate s t
mates = each_mate (IsDerivedOf Disabled) IsMate derived_is_told_alike

lessers : (s t : System) → All IsFunction s → All IsReadable s → AllZip (IsDerivedOf Any) s t → AllZip IsLesser s t
lessers = each_mate (IsDerivedOf Any) IsLesser least_is_told_at_most

alike : (s t : System) → AllZip IsMate s t → AllZip IsToldAlike s t
alike [] [] pairs = pairs
alike [] (g ∷ t) pairs = pairs
alike (f ∷ s) [] pairs = pairs
alike (f ∷ s) (g ∷ t) pairs = (pairs.0.1, alike s t pairs.1)

at_least : (s t : System) → AllZip IsLesser s t → AllZip IsToldAtLeast t s
at_least [] [] pairs = pairs
at_least [] (g ∷ t) pairs = pairs
at_least (f ∷ s) [] pairs = pairs
at_least (f ∷ s) (g ∷ t) pairs = (pairs.0.1, at_least s t pairs.1)

readable_too : (Q : Function → Function → Type 0) (s t : System) → AllZip (λ (f g : Function). IsReadable g × Q f g) s t → All IsReadable t
readable_too Q [] [] pairs k d less = absurd (let no : ⊥ = omega (arith, less) in no)
readable_too Q [] (g ∷ t) pairs k d less = absurd pairs
readable_too Q (f ∷ s) [] pairs k d less = absurd pairs
readable_too Q (f ∷ s) (g ∷ t) pairs zero d less = pairs.0.0
readable_too Q (f ∷ s) (g ∷ t) pairs (suc k) d less = readable_too Q s t pairs.1 k d (omega (arith, less))

function_too : (f g : Function) → IsFunction f → IsDerivedOf Disabled f g → IsFunction g
function_too f g is d = subst IsFunction (sym d.derived) record { slot = is.slot; image = is.image; probe = derived_image f.image d.lines }

functions_too : (s t : System) → All IsFunction s → AllZip (IsDerivedOf Disabled) s t → All IsFunction t
functions_too [] [] is pairs k d less = absurd (let no : ⊥ = omega (arith, less) in no)
functions_too [] (g ∷ t) is pairs k d less = absurd pairs
functions_too (f ∷ s) [] is pairs k d less = absurd pairs
functions_too (f ∷ s) (g ∷ t) is pairs zero d less = function_too f g (is 0 f (omega arith)) pairs.0
functions_too (f ∷ s) (g ∷ t) is pairs (suc k) d less = functions_too s t (λ k d less. is (suc k) d (omega (arith, less))) pairs.1 k d (omega (arith, less))

same_slots : (s t : System) → AllZip (IsDerivedOf Disabled) s t → map (λ (f : Function). f.slot) s ≡ map (λ (f : Function). f.slot) t
same_slots [] [] pairs = refl
same_slots [] (g ∷ t) pairs = absurd pairs
same_slots (f ∷ s) [] pairs = absurd pairs
same_slots (f ∷ s) (g ∷ t) pairs =
    let first : f.slot ≡ g.slot = sym (ap (λ (x : Function). x.slot) pairs.0.derived) in
    let rest = same_slots s t pairs.1 in
    λ i. first i ∷ rest i

system_too : (s t : System) → IsSystem s → AllZip (IsDerivedOf Disabled) s t → IsSystem t
system_too s t is pairs = record { each = functions_too s t is.each pairs; rising = subst IsRising (same_slots s t pairs) is.rising }

pub derived_has_the_same_faults : DerivedHasTheSameFaults
derived_has_the_same_faults roots s t is readable pairs =
    let mates_of = mates s t is.each readable pairs in
    alike_have_the_same_faults roots s t readable (readable_too IsToldAlike s t mates_of) (alike s t mates_of)

pub derived_has_the_same_first_fault : DerivedHasTheSameFirstFault
derived_has_the_same_first_fault roots s t is readable pairs =
    let mates_of = mates s t is.each readable pairs in
    alike_have_the_same_first_fault roots s t readable (readable_too IsToldAlike s t mates_of) (alike s t mates_of)

pub derived_is_sound_with_own : DerivedIsSoundWithOwn
derived_is_sound_with_own roots s t is readable pairs =
    let mates_of = mates s t is.each readable pairs in
    alike_are_sound_together roots s t is (system_too s t is pairs) readable (readable_too IsToldAlike s t mates_of) (alike s t mates_of)

pub faults_at_least_sizes_stand : FaultsAtLeastSizesStand
faults_at_least_sizes_stand roots s t is readable pairs =
    let lessers_of = lessers s t is.each readable pairs in
    greater_have_the_faults roots t s (readable_too (λ f g. IsToldAtLeast g f) s t lessers_of) readable (at_least s t lessers_of)
