-- What stands of a survey that is finished.
use Rattle.std.proofs.Common.{◌≡◌, ℕ, ◌<◌, List, map, refl, true, false, ◌&&◌, inl, inr, arith, sym, ◌∙◌, ap, subst, Option, Some, None, eq-eqb, get_or}
use Rattle.std.specs.Prelude.{◌==◌}
use Rattle.std.specs.List.{Contains, All}
use Rattle.std.proofs.lemmas.Bool.{both_ways, cases_lt, and_from, not-true, eqb-true}
use Rattle.std.proofs.lemmas.List.Elements.{All-contains, Contains-get_or}
use Rattle.pci_spec.specs.Slot.{Slot}
use Rattle.pci_spec.specs.System.{System, Function}
use Rattle.pci_spec.specs.Fault.{Fault, NoVendor, HeaderKind, BarType, BarMask, BarPair, RomMask, WindowMask, CapRange, CapLoop, CapCut, SlotsDiffer, StrayProbe, LoneFunction, OfProfile, BusRange, Orphan, Unreached, Clash, Split, IsIn, has_no_vendor, has_other_layout, is_stray, has_function_zero, IsPlainImage}
use Rattle.pci_spec.specs.Bar as bars
use Rattle.pci_spec.specs.Bar.{BarFault}
use Rattle.pci_spec.specs.Window.{breaks_window_rule}
use Rattle.pci_spec.specs.Rom.{breaks_rom_rule}
use Rattle.pci_spec.specs.Header.{layout}
use Rattle.pci_spec.specs.Sound.{IsInProfile}
use Rattle.pci_spec.specs.Decoded.{IsDecodable, HasRecords}
use Rattle.pci_spec.proofs.BusRanges.{any_from}
use Rattle.pci_spec.proofs.Members.{IsMade, in_map_to}
use Rattle.pci_spec.specs.Order.{phase_of, image_at}
use Rattle.pci_tree.proofs.EarlyFaults.{early-of_slots, early-of_here}
use Rattle.pci_function.proofs.FirstIn.{in_here, here_in, here_not_clear}
use Rattle.pci_tree.proofs.FirstAmong.{among_listed, first_among}
use Rattle.pci_spec.proofs.Looking.{phase_le}
use Rattle.pci_tree.specs.PlaceFaults.{IsPlaceRefusal}
use Rattle.pci_function.specs.declared.record.Record.{Record}
use Rattle.pci_function.specs.Values.{record_value}
use Rattle.pci_tree.specs.Ways.{slots_of}
use Rattle.pci_tree.specs.Outline.{RiseBySlot, Tree}
use Rattle.pci_tree.specs.BusNumbers.{IsInPlace, first_function}
use Rattle.pci_spec.proofs.ProfileFaults.{none_of_plain}
use Rattle.pci_function.specs.Profile.{IsAnswering, IsClearBefore}
use Rattle.pci_tree.specs.Survey.{Surveyed, phase_noted, IsSurveyOf, IsOutlineOf, IsRefusedBy}
use Rattle.pci_tree.proofs.Lifting.{Has}
use Rattle.pci_tree.proofs.Faces.{SameFace, HaveFaces, faces_of}
use Rattle.pci_tree.proofs.Places.{nested_in_places}

-- ---- no function is lone

-- function 0 among the records is one of the system
pub zero_function : (s : System) (rs : List Record) (slot : Slot) → HaveFaces s rs → Contains (slots_of rs) (first_function slot) → has_function_zero s slot ≡ true
zero_function s rs slot faces has =
    let made : IsMade (λ (r : Record). r.slot) rs (first_function slot) = in_map_to (λ (r : Record). r.slot) rs (first_function slot) has in
    let x : (f : Function) × Contains s f × SameFace f made.from = faces.to_function made.from made.has in
    let e : x.0.slot ≡ first_function slot = sym x.2.slot ∙ made.is in
    any_from (λ (f : Function). f.slot.bus == slot.bus && f.slot.device == slot.device && f.slot.function == 0) s x.0 x.1
    (and_from (x.0.slot.bus == slot.bus && x.0.slot.device == slot.device) (x.0.slot.function == 0)
    (and_from (x.0.slot.bus == slot.bus) (x.0.slot.device == slot.device) (eq-eqb x.0.slot.bus slot.bus (ap (λ (y : Slot). y.bus) e)) (eq-eqb x.0.slot.device slot.device (ap (λ (y : Slot). y.device) e)))
    (eq-eqb x.0.slot.function 0 (ap (λ (y : Slot). y.function) e)))

no_lone : (roots : List ℕ) (s : System) (rs : List Record) (slot : Slot) → Has s rs → All (IsInPlace roots rs) rs → IsIn roots s (LoneFunction slot) → ⊥
no_lone roots s rs slot has places (f, listed, same, (above, lone)) =
    let faces : HaveFaces s rs = faces_of s rs has in
    let x : (r : Record) × Contains rs r × SameFace f r = faces.to_record f listed in
    let p : IsInPlace roots rs x.0 = All-contains (IsInPlace roots rs) rs x.0 places x.1 in
    let e : x.0.slot ≡ slot = x.2.slot ∙ same in
    both_ways (has_function_zero s slot) (not-true _ lone)
    (zero_function s rs slot faces (subst (λ (y : Slot). 0 < y.function → Contains (slots_of rs) (first_function y)) e p.beside above))

-- ---- the profile

bar_is_fine : (o : Option BarFault) (e : BarFault) → o ≡ None → o ≡ Some e → ⊥
bar_is_fine o e none some = cc

module _ (roots : List ℕ) (s : System) (clear : (f : Function) → Contains s f → IsClearBefore 4 f) where
  answering : (f : Function) → Contains s f → IsAnswering f
  answering f has = (clear f has).answers (omega arith)

  decodes : (f : Function) → Contains s f → IsDecodable f
  decodes f has = ((clear f has).registers (omega arith)).0

  plain : (f : Function) → Contains s f → IsPlainImage f.image
  plain f has = (clear f has).profile (omega arith)

  -- no fault of the profile is there, where no function is lone
  pub profile_holds : ((slot : Slot) → IsIn roots s (LoneFunction slot) → ⊥) → IsInProfile roots s
  profile_holds lone (NoVendor slot) n (f, has, e, is) = both_ways (has_no_vendor f.image) (answering f has).vendor is
  profile_holds lone (HeaderKind slot) n (f, has, e, is) = both_ways (has_other_layout f.image) (answering f has).header is
  profile_holds lone (BarType slot register) n (f, has, e, (i, within, at, is)) = bar_is_fine _ bars.BarType ((decodes f has).bars i within) is
  profile_holds lone (BarMask slot register) n (f, has, e, (i, within, at, is)) = bar_is_fine _ bars.BarMask ((decodes f has).bars i within) is
  profile_holds lone (BarPair slot register) n (f, has, e, (i, within, at, is)) = bar_is_fine _ bars.BarPair ((decodes f has).bars i within) is
  profile_holds lone (RomMask slot register) n (f, has, e, (at, is)) = both_ways (breaks_rom_rule f.image f.probe) (decodes f has).rom is
  profile_holds lone (WindowMask slot register) n (f, has, e, (kind, bridge, at, is)) = both_ways (breaks_window_rule kind f.image f.probe) ((decodes f has).windows kind (eqb-true (layout f.image) 1 bridge)) is
  profile_holds lone (CapRange slot place) n is = both_ways false refl n
  profile_holds lone (CapLoop slot place) n is = both_ways false refl n
  profile_holds lone (CapCut slot place) n is = both_ways false refl n
  profile_holds lone (SlotsDiffer slot) n is = absurd is
  profile_holds lone (StrayProbe slot offset) n (f, has, e, is) = both_ways (is_stray f.image f.probe offset) ((answering f has).probe offset) is
  profile_holds lone (LoneFunction slot) n is = lone slot is
  profile_holds lone (OfProfile fault slot) n (f, has, e, is) = none_of_plain f.image (plain f has) fault is
  profile_holds lone (BusRange slot) n is = both_ways false refl n
  profile_holds lone (Orphan slot) n is = both_ways false refl n
  profile_holds lone (Unreached slot register space address bridge) n is = both_ways false refl n
  profile_holds lone (Clash bus space address first first_register second second_register) n is = both_ways false refl n
  profile_holds lone (Split space address first first_register second second_register) n is = both_ways false refl n

-- ---- finished

clear_of : (v : Surveyed) (s : System) → IsSurveyOf v s → v.fault ≡ None → (f : Function) → Contains s f → IsClearBefore 4 f
clear_of v s is none f has = subst (λ o. IsClearBefore (phase_noted o) f) none (is.clear f has)

-- the functions that a survey took have its records, where nothing is noted
pub records_of_survey : (v : Surveyed) (s : System) → IsSurveyOf v s → v.fault ≡ None → HasRecords s v.records
records_of_survey v s is none = record {
  decodable = λ k d within. ((clear_of v s is none (get_or s k d) (Contains-get_or s k d within)).registers (omega arith)).0;
  same = is.same none;
}

-- its records make the outline, where each is in its place
pub outline_of_survey : (v : Surveyed) (o : Tree) (rs : List Record) → v.fault ≡ None → v.records ≡ map record_value rs → RiseBySlot rs → All (IsInPlace v.roots rs) rs → o.roots ≡ v.roots → o.records ≡ v.records → IsOutlineOf v o
outline_of_survey v o rs none made rise places roots records =
    let have : (s : System) → IsSurveyOf v s → Has s rs = λ s is. subst (λ xs. HasRecords s xs) made (records_of_survey v s is none) in
    record {
      roots = roots;
      records = records;
      none = none;
      decoded = λ s is. records_of_survey v s is none;
      nested = λ s is. nested_in_places v.roots s rs (have s is) rise places;
      profile = λ s is. profile_holds v.roots s (clear_of v s is none) (λ slot lone. no_lone v.roots s rs slot (have s is) places lone);
      chains = λ s is f has. ((clear_of v s is none f has).registers (omega arith)).1;
    }

some_value : (x y : Fault) → Some x ≡ Some y → x ≡ y
some_value x y e = cc

none_is_not_some : (o : Option Fault) (e : Fault) → o ≡ None → o ≡ Some e → ⊥
none_is_not_some o e none some = cc

-- a survey is refused by the fault that is noted
pub refused_by_noted : (v : Surveyed) (e : Fault) → v.fault ≡ Some e → IsRefusedBy v e
refused_by_noted v e noted = record {
  noted = λ n is. some_value e n (sym noted ∙ is);
  there = λ s is. elim (is.there e noted) [
    | inl slots ↦ inl (slots, noted)
    | inr x ↦ inr (here_in v.roots s x.f e (among_listed s e x) x.here)
  ];
  early = λ s is. elim (is.there e noted) [
    | inl slots ↦ early-of_slots e slots
    | inr x ↦ early-of_here x.f e x.here
  ];
  first = λ s system is function. elim (is.there e noted) [
    | inl slots ↦ absurd (function slots)
    | inr x ↦ first_among v.roots s system e x (λ h has. subst (λ o. IsClearBefore (phase_noted o) h) noted (is.clear h has))
  ];
}

-- else by one of places
pub refused_by_place : (v : Surveyed) (e : Fault) → v.fault ≡ None → IsPlaceRefusal v.roots v.records e → IsRefusedBy v e
refused_by_place v e none refusal = record {
  noted = λ n is. absurd (none_is_not_some v.fault n none is);
  there = λ s is. inr (refusal.there s (records_of_survey v s is none));
  early = λ s is. refusal.early;
  first = λ s system is function other before there. elim (cases_lt (phase_of other) 4) [
    | inl early ↦ let x = in_here v.roots s other early there in here_not_clear x.g other 4 early (clear_of v s is none x.g x.has) x.here
    | inr late ↦
        let le = phase_le (image_at s) other e before in
        let phase = refusal.phase in
        refusal.first s system (records_of_survey v s is none) other (omega (arith, le, phase, late)) before there
  ];
}
