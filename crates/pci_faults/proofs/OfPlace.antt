-- The lines of functions' places.
use Rattle.std.proofs.Common.{◌≡◌, ℕ, zero, suc, ◌+◌, ◌<◌, List, [], ◌∷◌, ◌++◌, length, get_or, map, take, refl, true, arith, sym, ◌∙◌, ap, subst, None}
use Rattle.std.specs.Prelude.{IsTrue, ◌↔◌}
use Rattle.std.specs.List.{All, Contains}
use Rattle.std.proofs.lemmas.List.{get_or-map, get_or_default, length-map, take_more, map_push}
use Rattle.std.proofs.lemmas.List.Elements.{Contains-get_or}
use Rattle.pci_spec.specs.Slot.{Slot, IsSlot, slot_number}
use Rattle.pci_spec.specs.Text.{Block, slots_of}
use Rattle.pci_spec.specs.System.{System, Function, IsSystem, system_of}
use Rattle.pci_spec.specs.Fault.{Fault, IsIn, LoneFunction, Orphan, BusRange}
use Rattle.pci_spec.specs.Order.{precedes, slot_key, looking_key, phase_of, image_at, IsFirstThere}
use Rattle.pci_spec.specs.Decoded.{record_of}
use Rattle.pci_spec.specs.Decoded as decoded
use Rattle.pci_spec.specs.FaultLines.{IsLine, AreAllFaults}
use Rattle.pci_spec.proofs.FirstLines.{less_precedes}
use Rattle.pci_spec.proofs.Firsts.{slot_of}
use Rattle.pci_spec.proofs.Nesting.{earlier_is_lower}
use Rattle.pci_spec.proofs.Pairing.{there-of_in, in-of_there}
use Rattle.pci_image.specs.declared.fault.ImageFault.{ImageFault}
use Rattle.pci_image.specs.declared.fault.ImageFault.TheVariants as images
use Rattle.pci_image.specs.Faults.{IsImageFaultIn}
use Rattle.pci_function.specs.declared.fault.Fault.TheVariants as codes
use Rattle.pci_function.specs.declared.record.Record.{Record}
use Rattle.pci_function.specs.Fault.{image_fault_at}
use Rattle.pci_function.specs.Values.{record_value}
use Rattle.pci_function.proofs.Examined.{image_here}
use Rattle.pci_function.proofs.FirstHere.{rest_of}
use Rattle.pci_tree.specs.declared.buses.Misplaced.{Misplaced}
use Rattle.pci_tree.specs.Outline.{RiseBySlot}
use Rattle.pci_tree.specs.Misplaced.{IsMisplacedBy}
use Rattle.pci_tree.proofs.Faces.{SameFace, faces_of, face_of}
use Rattle.pci_tree.proofs.Lifting.{Has, one_by_number}
use Rattle.pci_tree.proofs.Misplacing.{lone_of, orphan_of, unlawful_of}
use Rattle.pci_faults.specs.Lists.{AreJust, present_faults}
use Rattle.pci_faults.specs.OwnLines.{HasNoneBefore, IsBeforeAt, IsOwnOf}
use Rattle.pci_faults.specs.Places.{IsPlaceAt, IsPlaceOf, place_list}
use Rattle.pci_faults.proofs.Checks.{check_of, late_alone, only_if}
use Rattle.pci_faults.proofs.Keys.{front_precedes}
use Rattle.pci_faults.proofs.Lines.{all_faults, none_earlier_than}
use Rattle.pci_faults.proofs.Lists.{IsOnly, told_by_place}

-- ---- records

-- a fault of decoding is one of an earlier phase
pub decodes : (f : Function) (fault : ImageFault) → HasNoneBefore 4 f → IsImageFaultIn f.image f.probe fault → ⊥
decodes f fault none is = none (image_fault_at f.slot fault) (early fault) (image_here f fault is)
  where
    early : (e : ImageFault) → phase_of (image_fault_at f.slot e) < 4
    early images.NoVendor = omega arith
    early images.HeaderKind = omega arith
    early _ = omega arith

-- one record more
pub records_more : (s : System) (i : ℕ) (f : Function) (rs : List Record) (r : Record) → i < length s → get_or s i f ≡ f → map record_value rs ≡ map record_of (take i s)
    → record_value r ≡ record_of f → map record_value (rs ++ r ∷ []) ≡ map record_of (take (i + 1) s)
records_more s i f rs r within at before same =
    map_push record_value rs r ∙ ap (λ xs. xs ++ record_value r ∷ []) before ∙ ap (λ x. map record_of (take i s) ++ x ∷ []) (same ∙ ap record_of (sym at))
    ∙ sym (map_push record_of (take i s) (get_or s i f)) ∙ ap (map record_of) (sym (take_more s i f within))

module _ (s : System) (system : IsSystem s) (rs : List Record) (has : Has s rs) where
  pub as_many : length rs ≡ length s
  as_many = sym (length-map rs record_value) ∙ ap (λ (xs : List decoded.Record). length xs) (sym has.same) ∙ length-map s record_of

  -- the record at an index is that of the function there
  pub record_at : (k : ℕ) (r : Record) (f : Function) → k < length s → r ≡ get_or rs k r → get_or s k f ≡ f → record_value r ≡ record_of f
  record_at k r f within at_r at_f =
      let long = as_many in
      let here : get_or (map record_value rs) k (record_value r) ≡ record_value (get_or rs k r) = get_or-map record_value rs k r (record_value r) (omega (arith, long, within)) in
      let there : get_or (map record_of s) k (record_value r) ≡ record_of (get_or s k f) = get_or-map record_of s k f (record_value r) within in
      ap record_value at_r ∙ sym here ∙ ap (λ xs. get_or xs k (record_value r)) (sym has.same) ∙ there ∙ ap record_of at_f

  slot_at : (k : ℕ) (d : Record) (f : Function) → k < length rs → (get_or rs k d).slot ≡ (get_or s k f).slot
  slot_at k d f within =
      let long = as_many in
      let in_s : k < length s = omega (arith, long, within) in
      let r = get_or rs k d in
      ap (λ (x : decoded.Record). x.slot) (record_at k r (get_or s k f) in_s (sym (get_or_default rs k r d within)) (get_or_default s k (get_or s k f) f in_s))

  pub records_rise : RiseBySlot rs
  records_rise i j d less within =
      let long = as_many in
      let first : Function = record { slot = d.slot; image = []; probe = [] } in
      let in_i : i < length s = omega (arith, long, less, within) in
      let in_j : j < length s = omega (arith, long, within) in
      let up = earlier_is_lower s system (get_or s i first) (get_or s j first) (i, in_i, get_or_default s i (get_or s i first) first in_i) (j, in_j, get_or_default s j (get_or s j first) first in_j) less in
      let one = ap slot_number (slot_at i d first (omega (arith, less, within))) in
      let two = ap slot_number (slot_at j d first within) in
      omega (arith, up, one, two)

  pub records_slots : All (λ (r : Record). IsSlot r.slot) rs
  records_slots k d within =
      let long = as_many in
      let first : Function = record { slot = d.slot; image = []; probe = [] } in
      subst IsSlot (sym (slot_at k d first within)) (slot_of s system (get_or s k first) (Contains-get_or s k first (omega (arith, long, within))))

-- ---- keys

place_rest : (f : Function) (e : Fault) → IsPlaceAt f.slot e → rest_of f e ≡ check_of f e ∷ []
place_rest f (LoneFunction slot) is = refl
place_rest f (Orphan slot) is = refl
place_rest f (BusRange slot) is = refl
place_rest f _ is = absurd is

place_phase : (slot : Slot) (e : Fault) → IsPlaceAt slot e → phase_of e ≡ 4
place_phase slot (LoneFunction other) is = refl
place_phase slot (Orphan other) is = refl
place_phase slot (BusRange other) is = refl
place_phase slot _ is = absurd is

-- the key hangs on no image
pub place_key : (image_of : Slot → List ℕ) (f : Function) (e : Fault) → IsPlaceAt f.slot e → looking_key image_of e ≡ 4 ∷ slot_key f.slot ++ rest_of f e
place_key image_of f (LoneFunction slot) is = ap (λ t. looking_key image_of (LoneFunction t)) is
place_key image_of f (Orphan slot) is = ap (λ t. looking_key image_of (Orphan t)) is
place_key image_of f (BusRange slot) is = ap (λ t. looking_key image_of (BusRange t)) is
place_key image_of f _ is = absurd is

place_rises : (s : System) (f : Function) (a b : Fault) → IsPlaceAt f.slot a → IsPlaceAt f.slot b → check_of f a < check_of f b → IsBeforeAt s a b
place_rises s f a b is_a is_b less =
    subst (λ k. precedes k (looking_key (image_at s) b) ≡ true) (sym (place_key (image_at s) f a is_a ∙ ap (λ xs. 4 ∷ slot_key f.slot ++ xs) (place_rest f a is_a)))
    (subst (λ k. precedes (4 ∷ slot_key f.slot ++ check_of f a ∷ []) k ≡ true) (sym (place_key (image_at s) f b is_b ∙ ap (λ xs. 4 ∷ slot_key f.slot ++ xs) (place_rest f b is_b)))
    (front_precedes 4 f.slot (check_of f a ∷ []) (check_of f b ∷ []) (less_precedes (check_of f a) (check_of f b) [] [] less)))

-- ---- of one function

-- which fault a check is for
abbrev PlaceIs : Slot → ℕ → Fault → Type 0
PlaceIs slot zero e = e ≡ LoneFunction slot
PlaceIs slot (suc zero) e = e ≡ Orphan slot
PlaceIs slot (suc (suc k)) e = e ≡ BusRange slot

place_is : (f : Function) (e : Fault) → IsPlaceAt f.slot e → PlaceIs f.slot (check_of f e) e
place_is f (LoneFunction slot) is = ap LoneFunction is
place_is f (Orphan slot) is = ap Orphan is
place_is f (BusRange slot) is = ap BusRange is
place_is f _ is = absurd is

place_within : (f : Function) (e : Fault) → IsPlaceAt f.slot e → check_of f e < 3
place_within f (LoneFunction slot) is = omega arith
place_within f (Orphan slot) is = omega arith
place_within f (BusRange slot) is = omega arith
place_within f _ is = absurd is

module _ (roots : List ℕ) (s : System) (f : Function) (m : Misplaced) (lone_is : IsTrue m.lone ↔ IsIn roots s (LoneFunction f.slot)) (orphan_is : IsTrue m.orphan ↔ IsIn roots s (Orphan f.slot))
    (range_is : IsTrue m.bus_range ↔ IsIn roots s (BusRange f.slot)) where
  abbrev IsAt : ℕ → Fault → Type 0
  IsAt k e = IsPlaceOf roots s f e × (check_of f e ≡ k)

  said_at : (k : ℕ) (e : Fault) → IsAt k e → PlaceIs f.slot k e
  said_at k e is = subst (λ n. PlaceIs f.slot n e) is.1 (place_is f e is.0.1)

  only_at : (j : ℕ) → j < 3 → IsOnly (IsAt j) (get_or (place_list f.slot m) j None)
  only_at zero less = only_if (IsAt 0) m.lone (codes.LoneFunction f.slot) (λ is. ((lone_is.0 is, refl), refl))
      (λ e is. (let said = said_at 0 e is in (said, lone_is.1 (subst (IsIn roots s) said is.0.0))))
  only_at (suc zero) less = only_if (IsAt 1) m.orphan (codes.Orphan f.slot) (λ is. ((orphan_is.0 is, refl), refl))
      (λ e is. (let said = said_at 1 e is in (said, orphan_is.1 (subst (IsIn roots s) said is.0.0))))
  only_at (suc (suc zero)) less = only_if (IsAt 2) m.bus_range (codes.BusRange f.slot) (λ is. ((range_is.0 is, refl), refl))
      (λ e is. (let said = said_at 2 e is in (said, range_is.1 (subst (IsIn roots s) said is.0.0))))
  only_at (suc (suc (suc j))) less = absurd (let no : ⊥ = omega (arith, less) in no)

  place_just : AreJust (IsBeforeAt s) (IsPlaceOf roots s f) (present_faults (place_list f.slot m))
  place_just =
      told_by_place (IsBeforeAt s) (IsPlaceOf roots s f) (check_of f) (λ a b is_a is_b less. place_rises s f a b is_a.1 is_b.1 less) (place_list f.slot m)
      (λ e is. place_within f e is.1) only_at

both : (P Q R : Type 0) → P ↔ Q → Q ↔ R → P ↔ R
both P Q R a b = (λ p. b.0 (a.0 p), λ r. a.1 (b.1 r))

-- what is told of a record's place is just what is wrong with that of its function
pub place_lines : (roots : List ℕ) (s : System) (system : IsSystem s) (rs : List Record) (has : Has s rs) (k : ℕ) (r : Record) (f : Function) (m : Misplaced)
    → k < length s → r ≡ get_or rs k r → get_or s k f ≡ f → IsMisplacedBy roots rs r m → AreJust (IsBeforeAt s) (IsPlaceOf roots s f) (present_faults (place_list r.slot m))
place_lines roots s system rs has k r f m within at_r at_f is =
    let long = as_many s system rs has in
    let faces = faces_of s rs has in
    let same = record_at s system rs has k r f within at_r at_f in
    let face : SameFace f r = face_of r f same in
    let in_rs : Contains rs r = (k, omega (arith, long, within), sym at_r) in
    let in_s : Contains s f = (k, within, at_f) in
    let unique = λ (q : Record) (in_q : Contains rs q) (e : q.slot ≡ r.slot). one_by_number (λ (x : Record). slot_number x.slot) rs q r (records_rise s system rs has) in_q in_rs (ap slot_number e) in
    let lone = both _ _ _ is.lone (lone_of roots s rs faces r f in_rs in_s face) in
    let orphan = both _ _ _ is.orphan (orphan_of roots s rs faces r f in_rs in_s face) in
    let unlawful = both _ _ _ is.bus_range (unlawful_of roots s rs faces r f in_rs in_s face unique) in
    subst (λ slot. AreJust (IsBeforeAt s) (IsPlaceOf roots s f) (present_faults (place_list slot m))) (sym face.slot)
    (place_just roots s f m (subst (λ slot. IsTrue m.lone ↔ IsIn roots s (LoneFunction slot)) face.slot lone) (subst (λ slot. IsTrue m.orphan ↔ IsIn roots s (Orphan slot)) face.slot orphan)
    (subst (λ slot. IsTrue m.bus_range ↔ IsIn roots s (BusRange slot)) face.slot unlawful))

-- ---- of all functions

place_of_in : (roots : List ℕ) (s : System) (e : Fault) → phase_of e ≡ 4 → IsIn roots s e → IsOwnOf (IsPlaceOf roots s) s e
place_of_in roots s (LoneFunction slot) phase is = record { of = is.0; has = is.1; own = (is, sym is.2) }
place_of_in roots s (Orphan slot) phase is = record { of = is.0; has = is.1; own = (is, sym is.2) }
place_of_in roots s (BusRange slot) phase is = record { of = is.0; has = is.1; own = (is, sym is.2) }
place_of_in roots s _ phase is = absurd (let no : ⊥ = omega (arith, phase) in no)

module _ (roots : List ℕ) (dump probe : List Block) (same : slots_of dump ≡ slots_of probe) (first : Fault) (is_first : IsFirstThere roots dump probe first) (phase : phase_of first ≡ 4) where
  place_is_line : (e : Fault) → IsOwnOf (IsPlaceOf roots (system_of dump probe)) (system_of dump probe) e → IsLine roots dump probe e
  place_is_line e is =
      let here = place_phase is.of.slot e is.own.1 in
      record {
        there = there-of_in roots dump probe e same is.own.0;
        none_earlier = λ other less there. none_earlier_than roots dump probe first other is_first (omega (arith, less, here, phase)) there;
        first = λ early other subjects before there. late_alone (image_at (system_of dump probe)) other e (omega (arith, here)) subjects before;
        named = λ judging. absurd (let no : ⊥ = omega (arith, judging, here) in no);
      }

  pub all_of_places : (xs : List Fault) → AreJust (IsBeforeAt (system_of dump probe)) (IsOwnOf (IsPlaceOf roots (system_of dump probe)) (system_of dump probe)) xs → AreAllFaults roots dump probe xs
  all_of_places xs just =
      all_faults roots dump probe first (IsOwnOf (IsPlaceOf roots (system_of dump probe)) (system_of dump probe)) xs is_first just place_is_line
      (λ e line here. place_of_in roots (system_of dump probe) e (here ∙ phase) (in-of_there roots dump probe e same line.there))
