-- The list of each phase is the whole one, also of blocks that are lent.
use Rattle.std.proofs.Common.{◌≡◌, ℕ, ◌<◌, List, [], ◌∷◌, Result, Ok, Err, inl, inr, arith, sym, ap, subst}
use Rattle.std.specs.Prelude.{IfOk, IsTrue}
use Rattle.std.specs.List.{Contains}
use Rattle.pci_spec.specs.Text.{Block, IsDump, slots_of}
use Rattle.pci_spec.specs.System.{Function, IsSystem, system_of}
use Rattle.pci_spec.specs.Fault.{Fault, SlotsDiffer, Unreached, Clash, Split, IsThere, fault_number}
use Rattle.pci_spec.specs.Order.{phase_of, is_before, image_at, IsFirstThere}
use Rattle.pci_spec.specs.FaultLines.{IsLine, AreAllFaults}
use Rattle.pci_spec.proofs.Members.{in_nil, in_head, in_cons_cases, pairs_head}
use Rattle.pci_spec.proofs.Pairing.{IsSystem-of_dumps}
use Rattle.pci_faults.specs.Lists.{AreJust, BeginsWith}
use Rattle.pci_faults.specs.OwnLines.{HasNoneBefore, IsBeforeAt, IsOwnLine, IsOwnOf}
use Rattle.pci_faults.specs.Places.{IsPlaceOf}
use Rattle.pci_faults.specs.Slots.{IsLoneSlot}
use Rattle.pci_faults.proofs.Lines.{none_in_function, none_earlier_than, all_of_functions}
use Rattle.pci_faults.proofs.Merging.{all_of_slots}
use Rattle.pci_faults.proofs.OfPlace.{all_of_places}

-- what an answer ensures may be said in other words
pub ok_more : {X E : Type 0} (P Q : X → Type 0) (r : Result X E) → ((x : X) → P x → Q x) → IfOk r P → IfOk r Q
ok_more P Q (Ok x) more is = more x is
ok_more P Q (Err e) more is = is

-- a fault below 60 is looked for before judging
pub before_judging : (e : Fault) → fault_number e < 60 → phase_of e < 5
before_judging (Unreached slot register space address bridge) low = omega (arith, low)
before_judging (Clash bus space address first first_register second second_register) low = omega (arith, low)
before_judging (Split space address first first_register second second_register) low = omega (arith, low)
before_judging _ low = omega arith

-- where another fault is there than one of slots, both list the same ones
pub same_slots : (roots : List ℕ) (dump probe : List Block) (e : Fault) → 0 < phase_of e → IsThere roots dump probe e → slots_of dump ≡ slots_of probe
same_slots roots dump probe (SlotsDiffer slot) late there = let no : ⊥ = omega (arith, late) in absurd no
same_slots roots dump probe _ late there = there.0

module _ (roots : List ℕ) (dump probe a b : List Block) (lent_dump : a ≡ dump) (lent_probe : b ≡ probe) (hd : IsDump dump) (hp : IsDump probe)
    (first : Fault) (is_first : IsFirstThere roots dump probe first) where
  lent_first : IsFirstThere roots a b first
  lent_first = subst (λ x. IsFirstThere roots x b first) (sym lent_dump) (subst (λ y. IsFirstThere roots dump y first) (sym lent_probe) is_first)

  lent_all : (xs : List Fault) → AreAllFaults roots a b xs → AreAllFaults roots dump probe xs
  lent_all xs all = subst (λ x. AreAllFaults roots x probe xs) lent_dump (subst (λ y. AreAllFaults roots a y xs) lent_probe all)

  lent_same : 0 < phase_of first → slots_of a ≡ slots_of b
  lent_same late = same_slots roots a b first late lent_first.there

  lent_system : 0 < phase_of first → IsSystem (system_of a b)
  lent_system late = IsSystem-of_dumps a b (subst IsDump (sym lent_dump) hd) (subst IsDump (sym lent_probe) hp) (lent_same late)

  pub none_of_functions : (p : ℕ) → 0 < p → phase_of first ≡ p → (f : Function) → Contains (system_of a b) f → HasNoneBefore p f
  none_of_functions p late phase f has =
      subst (λ n. HasNoneBefore n f) phase (none_in_function roots a b (lent_same (omega (arith, late, phase))) first lent_first f has)

  pub whole_of_slots : phase_of first ≡ 0 → (xs : List Fault) → AreJust (IsBeforeAt (system_of a b)) (IsLoneSlot (slots_of a) (slots_of b)) xs → AreAllFaults roots dump probe xs
  whole_of_slots phase xs just = lent_all xs (all_of_slots roots a b first xs lent_first phase just)

  pub whole_of_functions : (p : ℕ) → 0 < p → p < 4 → phase_of first ≡ p → (xs : List Fault)
      → AreJust (IsBeforeAt (system_of a b)) (IsOwnOf (IsOwnLine p) (system_of a b)) xs → AreAllFaults roots dump probe xs
  whole_of_functions p late early phase xs just =
      let after : 0 < phase_of first = omega (arith, late, phase) in
      lent_all xs (all_of_functions roots a b (lent_system after) (lent_same after) first lent_first (omega (arith, early, phase)) xs
      (subst (λ n. AreJust (IsBeforeAt (system_of a b)) (IsOwnOf (IsOwnLine n) (system_of a b)) xs) (sym phase) just))

  pub whole_of_places : phase_of first ≡ 4 → (xs : List Fault) → AreJust (IsBeforeAt (system_of a b)) (IsOwnOf (IsPlaceOf roots (system_of a b)) (system_of a b)) xs → AreAllFaults roots dump probe xs
  whole_of_places phase xs just = lent_all xs (all_of_places roots a b (lent_same (omega (arith, phase))) first lent_first phase xs just)

-- ---- the first line

module _ (roots : List ℕ) (dump probe : List Block) (first : Fault) (early : fault_number first < 60) (is : IsFirstThere roots dump probe first) where
  first_is_line : IsLine roots dump probe first
  first_is_line = record {
    there = is.there;
    none_earlier = λ other less there. none_earlier_than roots dump probe first other is less there;
    first = λ low other same before there. is.none_before other before there;
    named = λ judging. absurd (let low = before_judging first early in let no : ⊥ = omega (arith, judging, low) in no);
  }

  begins : (xs : List Fault) → AreAllFaults roots dump probe xs → BeginsWith first xs
  begins [] all = absurd (in_nil first (all.complete first first_is_line))
  begins (x ∷ xs) all = elim (in_cons_cases x xs first (all.complete first first_is_line)) [
    | inl same ↦ (xs, ap (λ y. y ∷ xs) same)
    | inr later ↦
        absurd (is.none_before x (pairs_head (λ a b. IsTrue (is_before (image_at (system_of dump probe)) a b)) x xs first all.rising later) (all.each x (in_head x xs)).there)
  ]

  pub ok_begins : {X E : Type 0} (list_of : X → List Fault) (r : Result X E) → IfOk r (λ x. AreAllFaults roots dump probe (list_of x)) → IfOk r (λ x. BeginsWith first (list_of x))
  ok_begins list_of (Ok x) all = begins (list_of x) all
  ok_begins list_of (Err e) all = all
