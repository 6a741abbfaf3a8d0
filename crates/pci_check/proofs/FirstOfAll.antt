-- The first fault of judging is the first of all, where a dump and its probe were admitted.
use Rattle.std.proofs.Common.{◌≡◌, ℕ, ◌<◌, ◌≤◌, List, ◌∷◌, refl, true, inl, inr, arith, subst}
use Rattle.std.proofs.lemmas.Bool.{cases_lt}
use Rattle.pci_spec.specs.Slot.{Slot}
use Rattle.pci_spec.specs.System.{System, system_of}
use Rattle.pci_spec.specs.Bus.{IsNested}
use Rattle.pci_spec.specs.Sound.{IsInProfile, HasChains}
use Rattle.pci_spec.specs.Fault.{Fault, IsIn, NoVendor, HeaderKind, BarType, BarMask, BarPair, RomMask, WindowMask, CapRange, CapLoop, CapCut, SlotsDiffer, StrayProbe, LoneFunction, OfProfile, BusRange, Orphan, Unreached, Clash, Split}
use Rattle.pci_spec.specs.Order.{IsFirst, IsFirstThere, precedes, looking_key, judging_key, phase_of, image_at}
use Rattle.pci_spec.proofs.Looking.{phase_le}
use Rattle.pci_spec.proofs.Nesting.{no_bus_fault_where_nested}
use Rattle.pci_spec.proofs.Pairing.{there-of_in, in-of_there}
use Rattle.pci_spec.proofs.Regions.{precedes-cases}
use Rattle.pci_spec.proofs.Walks.{chain-no_low_place, chain-no_loop, chain-no_cut_body}
use Rattle.pci_tree.specs.Admission.{Admission, IsAdmitted}

-- no fault that is looked for before judging is there where buses nest, in the profile, and lists end
module _ (roots : List ℕ) (s : System) (nested : IsNested roots s) (profile : IsInProfile roots s) (chains : HasChains s) where
  pub none_early : (other : Fault) → phase_of other < 5 → IsIn roots s other → ⊥
  none_early (NoVendor slot) early is = profile (NoVendor slot) refl is
  none_early (HeaderKind slot) early is = profile (HeaderKind slot) refl is
  none_early (BarType slot register) early is = profile (BarType slot register) refl is
  none_early (BarMask slot register) early is = profile (BarMask slot register) refl is
  none_early (BarPair slot register) early is = profile (BarPair slot register) refl is
  none_early (RomMask slot register) early is = profile (RomMask slot register) refl is
  none_early (WindowMask slot register) early is = profile (WindowMask slot register) refl is
  none_early (CapRange slot place) early (f, has, named, is) = chain-no_low_place f.image place (chains f has) is
  none_early (CapLoop slot place) early (f, has, named, is) = chain-no_loop f.image place (chains f has) is
  none_early (CapCut slot place) early (f, has, named, is) = chain-no_cut_body f.image place (chains f has) is
  none_early (SlotsDiffer slot) early is = profile (SlotsDiffer slot) refl is
  none_early (StrayProbe slot offset) early is = profile (StrayProbe slot offset) refl is
  none_early (LoneFunction slot) early is = profile (LoneFunction slot) refl is
  none_early (OfProfile fault slot) early is = profile (OfProfile fault slot) refl is
  none_early (BusRange slot) early is = (no_bus_fault_where_nested roots s nested slot).0 is
  none_early (Orphan slot) early is = (no_bus_fault_where_nested roots s nested slot).1 is
  none_early (Unreached slot register space address bridge) early is = let no : ⊥ = omega (arith, early) in no
  none_early (Clash bus space address first first_register second second_register) early is = let no : ⊥ = omega (arith, early) in no
  none_early (Split space address first first_register second second_register) early is = let no : ⊥ = omega (arith, early) in no

pub judging_of : (image_of : Slot → List ℕ) (e : Fault) → 5 ≤ phase_of e → looking_key image_of e ≡ 5 ∷ judging_key e
judging_of image_of (Unreached slot register space address bridge) late = refl
judging_of image_of (Clash bus space address first first_register second second_register) late = refl
judging_of image_of (Split space address first first_register second second_register) late = refl
judging_of image_of _ late = absurd (let no : ⊥ = omega (arith, late) in no)

pub admitted_first : (a : Admission) (e : Fault) → IsAdmitted a → IsFirst a.roots (system_of a.dump a.probe) e → IsFirstThere a.roots a.dump a.probe e
admitted_first a e admitted first = record {
  there = there-of_in a.roots a.dump a.probe e admitted.slots first.there;
  none_before = λ other before at.
      let inside = in-of_there a.roots a.dump a.probe other admitted.slots at in
      elim (cases_lt (phase_of other) 5) [
        | inl early ↦ none_early a.roots (system_of a.dump a.probe) admitted.nested admitted.profile admitted.chains other early inside
        | inr late ↦
            let image_of = image_at (system_of a.dump a.probe) in
            let le = phase_le image_of other e before in
            elim (precedes-cases 5 5 (judging_key other) (judging_key e)
            (subst (λ k. precedes k (5 ∷ judging_key e) ≡ true) (judging_of image_of other late)
            (subst (λ k. precedes (looking_key image_of other) k ≡ true) (judging_of image_of e (omega (arith, le, late))) before))) [
              | inl less ↦ let no : ⊥ = omega (arith, less) in no
              | inr (same, rest) ↦ first.first other rest inside
            ]
      ];
}
