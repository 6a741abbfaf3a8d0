-- The first fault of places, among all faults of places of a system.
use Rattle.std.proofs.Common.{◌≡◌, ℕ, zero, suc, ◌<◌, ◌≤◌, List, [], ◌∷◌, ◌++◌, refl, true, not, inl, inr, arith, sym, ◌∙◌, subst, ap, map}
use Rattle.std.specs.List.{Contains}
use Rattle.std.proofs.lemmas.Bool.{both_ways, and_parts, not-true}
use Rattle.pci_spec.specs.Slot.{Slot, IsSlot, slot_number}
use Rattle.pci_spec.specs.System.{System, Function, IsSystem, is_bridge}
use Rattle.pci_spec.specs.Bus.{has_lawful_buses, is_led_to}
use Rattle.pci_spec.specs.Fault.{IsIn, LoneFunction, BusRange, Orphan, has_function_zero}
use Rattle.pci_spec.specs.Fault as faults
use Rattle.pci_spec.specs.Order.{precedes, slot_key, looking_key, phase_of, is_before, image_at}
use Rattle.pci_spec.proofs.Firsts.{slot_of}
use Rattle.pci_spec.proofs.Looking.{key_cases, one_number}
use Rattle.pci_function.specs.declared.fault.Fault.{Fault}
use Rattle.pci_function.specs.declared.fault.Fault.TheVariants as codes
use Rattle.pci_function.specs.declared.record.Bridge.{Bridge}
use Rattle.pci_function.specs.declared.record.Record.{Record}
use Rattle.pci_function.specs.Values.{record_value}
use Rattle.pci_function.specs.Fault.{fault_of}
use Rattle.pci_tree.specs.BusNumbers.{IsNotLone, IsLedTo, IsInPlace}
use Rattle.pci_tree.specs.PlaceFaults.{IsPlaceFault, IsSomePlaceFault, IsPlaceRefusal}
use Rattle.pci_tree.proofs.EarlyFaults.{early-of_some_place}
use Rattle.pci_tree.proofs.Faces.{SameFace, HaveFaces, faces_of, IsFaceOf, bridge_face, lawful_function, led_function}
use Rattle.pci_tree.proofs.Finishes.{zero_function}
use Rattle.pci_tree.proofs.Places.{place_fault_in}

-- ---- what a fault of places says, by its number in the key

abbrev place_fault : ℕ → Slot → faults.Fault
place_fault zero slot = LoneFunction slot
place_fault (suc zero) slot = Orphan slot
place_fault (suc (suc n)) slot = BusRange slot

record IsPlaceAt (roots : List ℕ) (s : System) (other : faults.Fault) : Type 0 where
  slot : Slot
  number : ℕ
  key : (image_of : Slot → List ℕ) → looking_key image_of other ≡ 4 ∷ slot_key slot ++ number ∷ []
  is : IsIn roots s (place_fault number slot)
  g : Function
  listed : Contains s g
  at : g.slot ≡ slot

place_of : (roots : List ℕ) (s : System) (other : faults.Fault) → phase_of other ≡ 4 → IsIn roots s other → IsPlaceAt roots s other
place_of roots s (LoneFunction slot) phase is = record { slot = slot; number = 0; key = λ image_of. refl; is = is; g = is.0; listed = is.1; at = is.2 }
place_of roots s (Orphan slot) phase is = record { slot = slot; number = 1; key = λ image_of. refl; is = is; g = is.0; listed = is.1; at = is.2 }
place_of roots s (BusRange slot) phase is = record { slot = slot; number = 2; key = λ image_of. refl; is = is; g = is.0; listed = is.1; at = is.2 }
place_of roots s _ phase is = absurd (let no : ⊥ = omega (arith, phase) in no)

-- the same of the fault that was found, with what was looked for before it
record IsPlaceKey (roots : List ℕ) (rs : List Record) (r : Record) (e : Fault) : Type 0 where
  number : ℕ
  key : (image_of : Slot → List ℕ) → looking_key image_of (fault_of e) ≡ 4 ∷ slot_key r.slot ++ number ∷ []
  small : number ≤ 2
  beside : 0 < number → IsNotLone rs r.slot
  led : 1 < number → IsLedTo roots rs r.slot.bus

place_key : (roots : List ℕ) (rs : List Record) (r : Record) (e : Fault) → IsPlaceFault roots rs r e → IsPlaceKey roots rs r e
place_key roots rs r (codes.LoneFunction slot) is = record {
  number = 0;
  key = λ image_of. ap (λ t. looking_key image_of (LoneFunction t)) is.0;
  small = omega arith;
  beside = λ more. absurd (let no : ⊥ = omega (arith, more) in no);
  led = λ more. absurd (let no : ⊥ = omega (arith, more) in no);
}
place_key roots rs r (codes.Orphan slot) is = record {
  number = 1;
  key = λ image_of. ap (λ t. looking_key image_of (Orphan t)) is.0;
  small = omega arith;
  beside = λ more. is.2;
  led = λ more. absurd (let no : ⊥ = omega (arith, more) in no);
}
place_key roots rs r (codes.BusRange slot) is = record {
  number = 2;
  key = λ image_of. ap (λ t. looking_key image_of (BusRange t)) is.0;
  small = omega arith;
  beside = λ more. is.2;
  led = λ more. is.3;
}
place_key roots rs r _ is = absurd is

place_phase : (roots : List ℕ) (rs : List Record) (r : Record) (e : Fault) → IsPlaceFault roots rs r e → phase_of (fault_of e) ≡ 4
place_phase roots rs r (codes.LoneFunction slot) is = refl
place_phase roots rs r (codes.Orphan slot) is = refl
place_phase roots rs r (codes.BusRange slot) is = refl
place_phase roots rs r _ is = absurd is

-- ---- no fault of places before it

module _ (roots : List ℕ) (s : System) (rs : List Record) (faces : HaveFaces s rs) where
  pub not_lone : (slot : Slot) → IsNotLone rs slot → IsIn roots s (LoneFunction slot) → ⊥
  not_lone slot beside (f, listed, same, (above, lone)) = both_ways (has_function_zero s slot) (not-true _ lone) (zero_function s rs slot faces (beside above))

  pub not_orphan : (slot : Slot) → IsLedTo roots rs slot.bus → IsIn roots s (Orphan slot) → ⊥
  not_orphan slot led (f, listed, same, un) = both_ways (is_led_to roots s slot.bus) (not-true _ un) (led_function roots s rs slot.bus faces led)

  -- none of a function whose records are in their place
  none_in_place : (number : ℕ) (slot : Slot) (g : Function) → Contains s g → g.slot ≡ slot → ((q : Record) → Contains rs q → q.slot ≡ slot → IsInPlace roots rs q)
      → IsIn roots s (place_fault number slot) → ⊥
  none_in_place zero slot g listed at places is =
      let x : (r : Record) × Contains rs r × SameFace g r = faces.to_record g listed in
      let p = places x.0 x.1 (x.2.slot ∙ at) in
      not_lone slot (subst (λ y. IsNotLone rs y) (x.2.slot ∙ at) p.beside) is
  none_in_place (suc zero) slot g listed at places is =
      let x : (r : Record) × Contains rs r × SameFace g r = faces.to_record g listed in
      let p = places x.0 x.1 (x.2.slot ∙ at) in
      not_orphan slot (subst (λ (y : Slot). IsLedTo roots rs y.bus) (x.2.slot ∙ at) p.led) is
  none_in_place (suc (suc n)) slot g listed at places (f, in_f, same, un) =
      let parts : (is_bridge f ≡ true) × (not (has_lawful_buses roots s f) ≡ true) = and_parts (is_bridge f) (not (has_lawful_buses roots s f)) un in
      let x : (r : Record) × (d : Bridge) × IsFaceOf rs f r d = bridge_face s rs f faces in_f parts.0 in
      let p = places x.0 x.2.bridge.has (x.2.slot ∙ same) in
      both_ways (has_lawful_buses roots s f) (not-true _ parts.1) (lawful_function roots s rs f x.0 x.1 faces x.2 (p.buses x.1 x.2.bridge.is))

  -- none that is looked for before in the function itself
  none_lesser : (number : ℕ) (slot : Slot) (r : Record) (e : Fault) (key : IsPlaceKey roots rs r e) → number < key.number → slot ≡ r.slot → IsIn roots s (place_fault number slot) → ⊥
  none_lesser zero slot r e key less same is = not_lone slot (subst (λ y. IsNotLone rs y) (sym same) (key.beside less)) is
  none_lesser (suc zero) slot r e key less same is = not_orphan slot (subst (λ (y : Slot). IsLedTo roots rs y.bus) (sym same) (key.led less)) is
  none_lesser (suc (suc n)) slot r e key less same is = let small = key.small in let no : ⊥ = omega (arith, less, small) in no

  first_place : IsSystem s → (e : Fault) → IsSomePlaceFault roots rs e → (other : faults.Fault) → phase_of other ≡ 4 → is_before (image_at s) other (fault_of e) ≡ true
      → IsIn roots s other → ⊥
  first_place system e some other phase before there =
      let x = place_of roots s other phase there in
      let y = place_key roots rs some.r e some.is in
      elim (key_cases 4 4 x.slot some.r.slot (x.number ∷ []) (y.number ∷ []) (subst IsSlot x.at (slot_of s system x.g x.listed))
      (subst (λ k. precedes k (4 ∷ slot_key some.r.slot ++ y.number ∷ []) ≡ true) (x.key (image_at s))
      (subst (λ k. precedes (looking_key (image_at s) other) k ≡ true) (y.key (image_at s)) before))) [
        | inl less ↦ let no : ⊥ = omega (arith, less) in no
        | inr (four, inl lower) ↦
            none_in_place x.number x.slot x.g x.listed x.at (λ q has same. some.before q has (let e = ap slot_number same in omega (arith, e, lower))) x.is
        | inr (four, inr (same, rest)) ↦ none_lesser x.number x.slot some.r e y (one_number x.number y.number [] rest) same x.is
      ]

-- what the records are refused by
pub place_refusal : (roots : List ℕ) (rs : List Record) (e : Fault) → IsSomePlaceFault roots rs e → IsPlaceRefusal roots (map record_value rs) (fault_of e)
place_refusal roots rs e some = record {
  there = λ s has. place_fault_in roots s rs e has some;
  phase = place_phase roots rs some.r e some.is;
  early = early-of_some_place roots rs e some;
  first = λ s system has. first_place roots s rs (faces_of s rs has) system e some;
}
