-- What is wrong with a function by itself before its place is looked at stays so wherever it moves.
use Rattle.std.proofs.Common.{◌≡◌, ℕ, zero, suc, ◌<◌, ◌≤◌, [], ◌∷◌, true, false, inl, inr, refl, sym, ◌∙◌, ap, subst, arith, get_or}
use Rattle.std.specs.List.{Contains}
use Rattle.std.proofs.lemmas.Bool.{both_ways, cases_Bool}
use Rattle.pci_spec.specs.Number.{IsImage}
use Rattle.pci_spec.specs.Capability.{ComesTwiceTo, HasChain, HasCutBody, HasLowPlace}
use Rattle.pci_spec.specs.Fault.{Fault, NoVendor, HeaderKind, BarType, BarMask, BarPair, RomMask, WindowMask, CapRange, CapLoop, CapCut, SlotsDiffer, StrayProbe, LoneFunction, OfProfile, PowerState, BusRange, Orphan, Unreached, Clash, Split, IsIn}
use Rattle.pci_spec.specs.Order.{Phase, Profile, phase_key, phase_of}
use Rattle.pci_spec.specs.Sound.{is_of_profile, HasChains}
use Rattle.pci_spec.specs.Machine.{in_fields}
use Rattle.pci_spec.specs.System.{Function, IsFunction, IsSystem}
use Rattle.pci_spec.proofs.Chains.{chain_without_faults}
use Rattle.pci_spec.proofs.Members.{in_cons_cases, in_head, in_nil}
use Rattle.pci_spec.proofs.ProfileFaults.{profile_kept}
use Rattle.pci_spec.proofs.Walks.{chain-no_cut_body, chain-no_loop, chain-no_low_place}
use Rattle.plan_spec.specs.Plan.{IsMoved}
use Rattle.plan_spec.proofs.Planning.Faults.{fault_before}
use Rattle.plan_spec.proofs.Planning.Moved.{chain_same, layout_same}
use Rattle.plan_spec.proofs.Planning.ShownSame.{shows_same}
use Rattle.judge_spec.specs.Taken.{HasNoOwnFaultBefore, IsAsleep}
use Rattle.settle_answer_laws.proofs.Along.{fields_same}

-- what moved from a function moves back to it
pub moves_back : (x y : Function) → IsImage x.image → IsMoved x y → IsMoved y x
moves_back x y is m = record {
  slot = sym m.slot;
  probe = sym m.probe;
  image = is;
  same = λ place i inside small plain other.
      sym (m.same place i inside small (ap (λ fields. in_fields fields place i) (sym (fields_same x y (layout_same x y m is) m.probe)) ∙ plain) other);
}

only : (x y : Function) → Contains (x ∷ []) y → x ≡ y
only x y has = elim (in_cons_cases x [] y has) [ inl is ↦ is | inr more ↦ absurd (in_nil y more) ]

module _ (p : Phase) (from : 3 ≤ phase_key p) (to : phase_key p ≤ 4) (x y : Function) (is : IsFunction x) (m : IsMoved x y) (none : HasNoOwnFaultBefore p x) where
  pub chain : HasChain x.image
  chain = (chain_without_faults x.image is.image).1 record {
    high = λ place low. none (CapRange x.slot place) (omega (arith, from)) (x, in_head x [], refl, low);
    once = λ place twice. none (CapLoop x.slot place) (omega (arith, from)) (x, in_head x [], refl, twice);
    whole = λ place cut. none (CapCut x.slot place) (omega (arith, from)) (x, in_head x [], refl, cut);
  }

  moved_chain : HasChain y.image
  moved_chain = (chain.0, chain_same x y m is.image chain.0 chain.1)

  chains : HasChains (x ∷ [])
  chains f has = subst (λ (f : Function). HasChain f.image) (only x f has) chain

  system : IsSystem (x ∷ [])
  system = record { each = one; rising = λ k less. absurd (let no : ⊥ = omega (arith, less) in no) }
    where
      one : (k : ℕ) (d : Function) → k < 1 → IsFunction (get_or (x ∷ []) k d)
      one zero d less = is
      one (suc k) d less = absurd (let no : ⊥ = omega (arith, less) in no)

  there_before : (fault : Fault) → is_of_profile fault ≡ true → IsIn [] (y ∷ []) fault → IsIn [] (x ∷ []) fault
  there_before fault = fault_before [] (x ∷ []) (y ∷ []) system chains (m, tt) fault

  other : (fault : Fault) → is_of_profile fault ≡ false → phase_of fault < phase_key p → IsIn [] (y ∷ []) fault → ⊥
  other (NoVendor slot) of early there = both_ways true of refl
  other (HeaderKind slot) of early there = both_ways true of refl
  other (BarType slot register) of early there = both_ways true of refl
  other (BarMask slot register) of early there = both_ways true of refl
  other (BarPair slot register) of early there = both_ways true of refl
  other (RomMask slot register) of early there = both_ways true of refl
  other (WindowMask slot register) of early there = both_ways true of refl
  other (CapRange slot place) of early (f, has, at, low) = chain-no_low_place y.image place moved_chain (subst (λ (f : Function). HasLowPlace f.image place) (sym (only y f has)) low)
  other (CapLoop slot place) of early (f, has, at, twice) = chain-no_loop y.image place moved_chain (subst (λ (f : Function). ComesTwiceTo f.image place) (sym (only y f has)) twice)
  other (CapCut slot place) of early (f, has, at, cut) = chain-no_cut_body y.image place moved_chain (subst (λ (f : Function). HasCutBody f.image place) (sym (only y f has)) cut)
  other (SlotsDiffer slot) of early there = there
  other (StrayProbe slot offset) of early there = both_ways true of refl
  other (LoneFunction slot) of early there = both_ways true of refl
  other (OfProfile fault slot) of early there = both_ways true of refl
  other (BusRange slot) of early there = omega (arith, early, to)
  other (Orphan slot) of early there = omega (arith, early, to)
  other (Unreached slot register space address bridge) of early there = omega (arith, early, to)
  other (Clash bus space address first first_register second second_register) of early there = omega (arith, early, to)
  other (Split space address first first_register second second_register) of early there = omega (arith, early, to)

  pub own_later : HasNoOwnFaultBefore p y
  own_later fault early there = elim (cases_Bool (is_of_profile fault)) [
    | inl profile ↦ none fault early (there_before fault profile there)
    | inr rest ↦ other fault rest early there
  ]

-- what moves is asleep where it was
pub asleep_later : (x y : Function) → IsFunction x → IsFunction y → IsMoved x y → IsAsleep y → IsAsleep x
asleep_later x y is_x is_y m (none, state) =
    let back = moves_back x y is_x.image m in
    let sleeps = own_later Profile (omega arith) (omega arith) y x is_y back none in
    (sleeps, profile_kept x.image y.image (shows_same x y m is_x.image (chain Profile (omega arith) (omega arith) x y is_x m sleeps)) PowerState state)
