-- Functions are readable exactly where no fault of reading them is there.
use Rattle.std.proofs.Common.{◌≡◌, ℕ, ◌<◌, List, refl, true, false, Option, None, Some, sym, ◌∙◌, ap, subst, is_some}
use Rattle.std.specs.Bool.{IsTrue, ◌==◌}
use Rattle.std.specs.List.{All, Contains}
use Rattle.std.proofs.lemmas.Bool.{both_ways, eqb-true, false_from_ne_true}
use Rattle.std.proofs.lemmas.List.Elements.{All-contains, All-contains_itself, All-weaker}
use Rattle.pci_spec.specs.Slot.{Slot}
use Rattle.pci_spec.specs.Header.{layout, bar_count, bar_register, rom_register}
use Rattle.pci_spec.specs.Bar.{BarFault, bar_fault}
use Rattle.pci_spec.specs.Bar as bars
use Rattle.pci_spec.specs.Rom.{breaks_rom_rule}
use Rattle.pci_spec.specs.Window.{window_register, breaks_window_rule}
use Rattle.pci_spec.specs.System.{System, Function}
use Rattle.pci_spec.specs.Fault.{Fault, fault_number, IsIn, NoVendor, HeaderKind, BarType, BarMask, BarPair, RomMask, WindowMask, CapRange, CapLoop, CapCut, SlotsDiffer, StrayProbe, LoneFunction, OfProfile, BusRange, Orphan, Unreached, Clash, Split, SomeAt, HasBarFault, has_no_vendor, has_other_layout, is_stray}
use Rattle.pci_spec.specs.ToldAlike.{IsReadable}
use Rattle.pci_spec.specs.ProbeLaws.{is_reading_number, ReadableWithoutFaults}
use Rattle.pci_spec.proofs.ProfileFaults.{no_reading_number}

-- ---- readable ones have none

-- no BAR breaks a rule and breaks none
none_or_some : (x : Option BarFault) (fault : BarFault) → x ≡ None → x ≡ Some fault → ⊥
none_or_some x fault none some = both_ways true (sym (ap is_some some) ∙ ap is_some none) refl

module _ (roots : List ℕ) (s : System) (readable : All IsReadable s) where
  is_readable : (f : Function) → Contains s f → IsReadable f
  is_readable f listed = All-contains IsReadable s f readable listed

  no_bar_fault : (slot : Slot) (register : ℕ) (fault : BarFault) → SomeAt s slot (λ f. HasBarFault f.image f.probe register fault) → ⊥
  no_bar_fault slot register fault (f, listed, at, (n, inside, place, broken)) = none_or_some (bar_fault f.image f.probe n) fault ((is_readable f listed).decodable.bars n inside) broken

  pub none_of_readable : (fault : Fault) → IsTrue (is_reading_number (fault_number fault)) → IsIn roots s fault → ⊥
  none_of_readable (NoVendor slot) k (f, listed, at, there) = both_ways _ (is_readable f listed).decodable.vendor there
  none_of_readable (HeaderKind slot) k (f, listed, at, there) = both_ways _ (is_readable f listed).decodable.header there
  none_of_readable (BarType slot register) k there = no_bar_fault slot register bars.BarType there
  none_of_readable (BarMask slot register) k there = no_bar_fault slot register bars.BarMask there
  none_of_readable (BarPair slot register) k there = no_bar_fault slot register bars.BarPair there
  none_of_readable (RomMask slot register) k (f, listed, at, (place, there)) = both_ways _ (is_readable f listed).decodable.rom there
  none_of_readable (WindowMask slot register) k (f, listed, at, (kind, bridge, place, there)) = both_ways _ ((is_readable f listed).decodable.windows kind (eqb-true (layout f.image) 1 bridge)) there
  none_of_readable (CapRange slot place) k there = both_ways false refl k
  none_of_readable (CapLoop slot place) k there = both_ways false refl k
  none_of_readable (CapCut slot place) k there = both_ways false refl k
  none_of_readable (SlotsDiffer slot) k there = there
  none_of_readable (StrayProbe slot offset) k (f, listed, at, there) = both_ways _ ((is_readable f listed).clean offset) there
  none_of_readable (LoneFunction slot) k there = both_ways false refl k
  none_of_readable (OfProfile fault slot) k there = both_ways _ (no_reading_number fault) k
  none_of_readable (BusRange slot) k there = both_ways false refl k
  none_of_readable (Orphan slot) k there = both_ways false refl k
  none_of_readable (Unreached slot register space address bridge) k there = both_ways false refl k
  none_of_readable (Clash bus space address first first_register second second_register) k there = both_ways false refl k
  none_of_readable (Split space address first first_register second second_register) k there = both_ways false refl k

-- ---- and those without are readable

none_by : (o : Option BarFault) → ((fault : BarFault) → o ≡ Some fault → ⊥) → o ≡ None
none_by None never = refl
none_by (Some fault) never = absurd (never fault refl)

module _ (roots : List ℕ) (s : System) (none : (fault : Fault) → IsTrue (is_reading_number (fault_number fault)) → IsIn roots s fault → ⊥) where
  breaks_none : (f : Function) → Contains s f → (n : ℕ) → n < bar_count (layout f.image) → (fault : BarFault) → bar_fault f.image f.probe n ≡ Some fault → ⊥
  breaks_none f listed n less bars.BarType is = none (BarType f.slot (bar_register n)) refl (f, listed, refl, (n, less, refl, is))
  breaks_none f listed n less bars.BarMask is = none (BarMask f.slot (bar_register n)) refl (f, listed, refl, (n, less, refl, is))
  breaks_none f listed n less bars.BarPair is = none (BarPair f.slot (bar_register n)) refl (f, listed, refl, (n, less, refl, is))

  reads : (f : Function) → Contains s f → IsReadable f
  reads f listed = record {
    decodable = record {
      vendor = false_from_ne_true (has_no_vendor f.image) (λ is. none (NoVendor f.slot) refl (f, listed, refl, is));
      header = false_from_ne_true (has_other_layout f.image) (λ is. none (HeaderKind f.slot) refl (f, listed, refl, is));
      bars = λ n less. none_by (bar_fault f.image f.probe n) (breaks_none f listed n less);
      rom = false_from_ne_true (breaks_rom_rule f.image f.probe) (λ is. none (RomMask f.slot (rom_register (layout f.image))) refl (f, listed, refl, (refl, is)));
      windows = λ kind bridge. false_from_ne_true (breaks_window_rule kind f.image f.probe)
          (λ is. none (WindowMask f.slot (window_register kind)) refl (f, listed, refl, (kind, subst (λ n. IsTrue (n == 1)) (sym bridge) refl, refl, is)));
    };
    clean = λ offset. false_from_ne_true (is_stray f.image f.probe offset) (λ is. none (StrayProbe f.slot offset) refl (f, listed, refl, is));
  }

  pub readable_of_none : All IsReadable s
  readable_of_none = All-weaker (Contains s) IsReadable reads s (All-contains_itself s)

pub readable_without_faults : ReadableWithoutFaults
readable_without_faults roots s = (none_of_readable roots s, readable_of_none roots s)
