-- Faults of places, and 58 of held ranges among them.
use Rattle.std.proofs.Common.{◌≡◌, ◌⊎◌, ℕ, ◌+◌, ◌*◌, ◌<◌, inl, inr, List, [], ◌∷◌, ◌++◌, get_or, map, true, refl, sym, ◌∙◌, ap, subst, arith}
use Rattle.std.specs.Prelude.{IsTrue}
use Rattle.std.specs.List.{AllPairs, Contains}
use Rattle.std.specs.List.Sorted.{IsNonDecreasingBy}
use Rattle.std.proofs.lemmas.Bool.{cases_order}
use Rattle.std.proofs.lemmas.List.Elements.{All-contains, Contains-get_or, Contains-append_left, Contains-append_right, Contains-append_cases}
use Rattle.std.proofs.lemmas.List.Sorted.{Contains-permutation, IsPermutation-sym}
use Rattle.pci_spec.specs.Slot.{Slot, IsSlot, slot_number}
use Rattle.pci_spec.specs.Text.{Block, IsBlock, IsDump, slots_of}
use Rattle.pci_spec.specs.System.{System, Function, system_of}
use Rattle.pci_spec.specs.Fault.{Fault, LoneFunction, Orphan, BusRange, IsIn, IsThere}
use Rattle.pci_spec.specs.Order.{precedes, slot_key, looking_key, phase_of, is_before, image_at}
use Rattle.pci_spec.proofs.FirstLines.{less_precedes}
use Rattle.pci_spec.proofs.Members.{IsMade, in_nil, in_map_to, in_map_from, pairs_map, pairs_append}
use Rattle.pci_spec.proofs.Pairing.{slots-system_of, there-of_in, in-of_there}
use Rattle.pci_spec.proofs.Regions.{slot_number-same}
use Rattle.pci_function.specs.declared.fault.Fault as code
use Rattle.pci_function.specs.declared.fault.Fault.TheVariants as codes
use Rattle.pci_function.specs.Fault.{fault_of}
use Rattle.pci_faults.proofs.Checks.{late_alone}
use Rattle.pci_faults.proofs.Keys.{not_before_itself, front_precedes, lower_precedes}
use Rattle.judge_spec.specs.Told.{IsToldRange, IsTold}
use Rattle.judge_spec.specs.ToldClaims.{Told}
use Rattle.judge_spec.specs.ToldFault.{IsHeldOrphan}
use Rattle.judge_spec.specs.ToldFaultLines.{IsEarlyThere, IsEarlyLine, AreAllEarly}
use Rattle.judge_spec.proofs.DeterminedTexts.{pairs_of_map, slot_decided}
use Rattle.pci_claims.proofs.Making.{rise_in_order}
use Rattle.pci_faults.specs.Before.{AreSlotsOf, IsOfNoBus, place_number, AreOrphansAdded}
use Rattle.pci_faults.proofs.ToldFirst.{orphan_to, orphan_from}

-- ---- places of faults in their order

record Placed (f : Fault) : Type 0 where
  slot : Slot
  check : ℕ
  small : check < 3
  place : place_number f ≡ 3 * slot_number slot + check
  key : (image_of : Slot → List ℕ) → looking_key image_of f ≡ 4 ∷ slot_key slot ++ (check ∷ [])

placed : (f : Fault) → phase_of f ≡ 4 → Placed f
placed (LoneFunction slot) e = record { slot = slot; check = 0; small = omega arith; place = omega arith; key = λ image_of. refl }
placed (Orphan slot) e = record { slot = slot; check = 1; small = omega arith; place = refl; key = λ image_of. refl }
placed (BusRange slot) e = record { slot = slot; check = 2; small = omega arith; place = refl; key = λ image_of. refl }
placed _ e = absurd (let no : ⊥ = omega (arith, e) in no)

before_of : (f g : Fault) (p : Placed f) (q : Placed g) → IsSlot p.slot → IsSlot q.slot → place_number f < place_number g → (image_of : Slot → List ℕ) → is_before image_of f g ≡ true
before_of f g p q at_p at_q less image_of =
    let one = p.place in
    let two = q.place in
    let small_p = p.small in
    let small_q = q.small in
    subst (λ k. precedes k (looking_key image_of g) ≡ true) (sym (p.key image_of)) (subst (λ k. precedes (4 ∷ slot_key p.slot ++ (p.check ∷ [])) k ≡ true) (sym (q.key image_of))
    (elim (cases_order (slot_number p.slot) (slot_number q.slot)) [
      | inl same ↦
          subst (λ (x : Slot). precedes (4 ∷ slot_key p.slot ++ (p.check ∷ [])) (4 ∷ slot_key x ++ (q.check ∷ [])) ≡ true) (slot_number-same p.slot q.slot at_p at_q same)
          (front_precedes 4 p.slot (p.check ∷ []) (q.check ∷ []) (less_precedes p.check q.check [] [] (omega (arith, less, one, two, same))))
      | inr (inl lower) ↦ lower_precedes 4 p.slot q.slot (p.check ∷ []) (q.check ∷ []) at_p at_q lower
      | inr (inr higher) ↦ absurd (let no : ⊥ = omega (arith, less, one, two, small_p, small_q, higher) in no)
    ]))

-- of one that is looked for before another the place is another
differ_of : (f g : Fault) (p : Placed f) (q : Placed g) → IsSlot p.slot → IsSlot q.slot → (image_of : Slot → List ℕ) → is_before image_of f g ≡ true → place_number f ≡ place_number g → ⊥
differ_of f g p q at_p at_q image_of before same =
    let one = p.place in
    let two = q.place in
    let small_p = p.small in
    let small_q = q.small in
    let number : slot_number p.slot ≡ slot_number q.slot = omega (arith, same, one, two, small_p, small_q) in
    let check : p.check ≡ q.check = omega (arith, same, one, two, small_p, small_q) in
    let slots : p.slot ≡ q.slot = slot_number-same p.slot q.slot at_p at_q number in
    let keys : looking_key image_of f ≡ looking_key image_of g =
    p.key image_of ∙ ap (λ (x : Slot). 4 ∷ slot_key x ++ (p.check ∷ [])) slots ∙ ap (λ k. 4 ∷ slot_key q.slot ++ (k ∷ [])) check ∙ sym (q.key image_of) in
    not_before_itself (looking_key image_of g) (subst (λ k. precedes k (looking_key image_of g) ≡ true) keys before)

-- the function is listed
at_place : (roots : List ℕ) (s : System) (f : Fault) (e : phase_of f ≡ 4) → IsIn roots s f → Contains (map (λ (g : Function). g.slot) s) (placed f e).slot
unfolding placed
at_place roots s (LoneFunction slot) e is = subst (λ x. Contains (map (λ (g : Function). g.slot) s) x) is.2 (in_map_from (λ (g : Function). g.slot) s is.0 is.1)
at_place roots s (Orphan slot) e is = subst (λ x. Contains (map (λ (g : Function). g.slot) s) x) is.2 (in_map_from (λ (g : Function). g.slot) s is.0 is.1)
at_place roots s (BusRange slot) e is = subst (λ x. Contains (map (λ (g : Function). g.slot) s) x) is.2 (in_map_from (λ (g : Function). g.slot) s is.0 is.1)
at_place roots s _ e is = absurd (let no : ⊥ = omega (arith, e) in no)

module _ (told : Told) (is_told : IsTold told.ranges) (roots : List ℕ) (dump probe : List Block) (is_dump : IsDump dump) (same : slots_of dump ≡ slots_of probe) where
  abbrev s : System
  s = system_of dump probe

  -- ---- what is there

  pub early_there : (f : Fault) → IsThere roots dump probe f → IsEarlyThere told roots dump probe f
  early_there f = elim f as (λ f. IsThere roots dump probe f → IsEarlyThere told roots dump probe f) [
    | Orphan slot ↦ λ there. inl there
    | _ ↦ λ there. there
  ]

  pub there_low : (f : Fault) → phase_of f < 4 → IsEarlyThere told roots dump probe f → IsThere roots dump probe f
  there_low f = elim f as (λ f. phase_of f < 4 → IsEarlyThere told roots dump probe f → IsThere roots dump probe f) [
    | Orphan slot ↦ λ low there. absurd (let no : ⊥ = omega (arith, low) in no)
    | _ ↦ λ low there. there
  ]

  -- a held range of such a slot
  abbrev pub IsOfHeld : Fault → Type 0
  IsOfHeld f = (slot : Slot) × (f ≡ Orphan slot) × IsHeldOrphan told roots s slot

  pub there_cases : (f : Fault) → IsEarlyThere told roots dump probe f → IsThere roots dump probe f ⊎ IsOfHeld f
  there_cases f = elim f as (λ f. IsEarlyThere told roots dump probe f → IsThere roots dump probe f ⊎ IsOfHeld f) [
    | Orphan slot ↦ λ there. elim there [ inl plain ↦ inl plain | inr held ↦ inr (slot, refl, held) ]
    | _ ↦ λ there. inl there
  ]

  held_there : (f : Fault) → IsOfHeld f → IsEarlyThere told roots dump probe f
  held_there f (slot, is, held) = subst (λ x. IsEarlyThere told roots dump probe x) (sym is) (inr held)

  -- a held range of a slot that is listed adds nothing
  listed_orphan : (slot : Slot) → Contains (slots_of dump) slot → IsHeldOrphan told roots s slot → IsThere roots dump probe (Orphan slot)
  listed_orphan slot has held =
      let made : IsMade (λ (g : Function). g.slot) s slot = in_map_to (λ (g : Function). g.slot) s slot (subst (λ (l : List Slot). Contains l slot) (sym (slots-system_of dump probe same)) has) in
      there-of_in roots dump probe (Orphan slot) same (made.from, made.has, made.is, held.not_led_to)

  slot_listed : (f : Fault) (e : phase_of f ≡ 4) → IsThere roots dump probe f → Contains (slots_of dump) (placed f e).slot
  slot_listed f e there =
      subst (λ (l : List Slot). Contains l (placed f e).slot) (slots-system_of dump probe same) (at_place roots s f e (in-of_there roots dump probe f same there))

  slot_in : (f : Fault) (e : phase_of f ≡ 4) → IsEarlyThere told roots dump probe f → IsSlot (placed f e).slot
  unfolding placed
  slot_in f e there = elim (there_cases f there) [
    | inl plain ↦
        (let made : IsMade (λ (b : Block). b.slot) dump (placed f e).slot = in_map_to (λ (b : Block). b.slot) dump (placed f e).slot (slot_listed f e plain) in
        let block : IsBlock made.from = All-contains IsBlock dump made.from is_dump.each made.has in
        subst IsSlot made.is block.slot)
    | inr of_held ↦ of_range f e of_held
  ] where
    of_orphan : (slot : Slot) → IsHeldOrphan told roots s slot → IsSlot slot
    of_orphan slot held = let is : IsToldRange held.r = All-contains IsToldRange told.ranges held.r is_told.each held.is_told in subst IsSlot held.of_slot is.line.slot

    of_range : (f : Fault) (e : phase_of f ≡ 4) → IsOfHeld f → IsSlot (placed f e).slot
    of_range f e (slot, is, held) = subst (λ (x : Fault). (e : phase_of x ≡ 4) → IsSlot (placed x e).slot) (sym is) (λ e. of_orphan slot held) e

  -- ---- 58 among the faults of places

  module _ (early : List code.Fault) (there : (f : Fault) → Contains (map fault_of early) f → IsThere roots dump probe f × (phase_of f ≡ 4))
      (complete : (f : Fault) → phase_of f < 5 → IsThere roots dump probe f → Contains (map fault_of early) f)
      (rising : AllPairs (λ f g. IsTrue (is_before (image_at s) f g)) (map fault_of early))
      (orphans : List Slot) (all : AreSlotsOf (IsOfNoBus roots dump) told.ranges orphans) (new : List code.Fault) (added : AreOrphansAdded orphans early new) where
    abbrev joined : List code.Fault
    joined = early ++ map (λ slot. codes.Orphan slot) orphans

    abbrev place : code.Fault → ℕ
    place f = place_number (fault_of f)

    -- what the list has
    in_new : (f : Fault) → Contains (map fault_of new) f → IsEarlyThere told roots dump probe f × (phase_of f ≡ 4)
    in_new f has =
        let made : IsMade fault_of new f = in_map_to fault_of new f has in
        elim (Contains-append_cases early (map (λ slot. codes.Orphan slot) orphans) made.from (Contains-permutation new joined made.from (IsPermutation-sym joined new added.moved) made.has)) [
          | inl old ↦
              (let is = there f (subst (λ x. Contains (map fault_of early) x) made.is (in_map_from fault_of early made.from old)) in
              (early_there f is.0, is.1))
          | inr more ↦
              (let orphan : IsMade (λ slot. codes.Orphan slot) orphans made.from = in_map_to (λ slot. codes.Orphan slot) orphans made.from more in
              let is : f ≡ Orphan orphan.from = sym made.is ∙ ap fault_of (sym orphan.is) in
              (held_there f (orphan.from, is, orphan_to told dump probe same roots orphan.from (all.each orphan.from orphan.has)), ap phase_of is))
        ]

    from_old : (f : Fault) → Contains (map fault_of early) f → Contains (map fault_of new) f
    from_old f has =
        let made : IsMade fault_of early f = in_map_to fault_of early f has in
        subst (λ x. Contains (map fault_of new) x) made.is (in_map_from fault_of new made.from (Contains-permutation joined new made.from added.moved (Contains-append_left early (map (λ slot. codes.Orphan slot) orphans) made.from made.has)))

    from_orphan : (slot : Slot) → Contains orphans slot → Contains (map fault_of new) (Orphan slot)
    from_orphan slot has =
        in_map_from fault_of new (codes.Orphan slot) (Contains-permutation joined new (codes.Orphan slot) added.moved
        (Contains-append_right early (map (λ x. codes.Orphan x) orphans) (codes.Orphan slot) (in_map_from (λ x. codes.Orphan x) orphans slot has)))

    has_all : (f : Fault) → phase_of f < 5 → IsEarlyThere told roots dump probe f → Contains (map fault_of new) f
    has_all f low is = elim (there_cases f is) [
      | inl plain ↦ from_old f (complete f low plain)
      | inr (slot, at, held) ↦ subst (λ x. Contains (map fault_of new) x) (sym at) (elim (slot_decided (slots_of dump) slot) [
        | inl listed ↦ from_old (Orphan slot) (complete (Orphan slot) (omega arith) (listed_orphan slot listed held))
        | inr unlisted ↦ from_orphan slot (all.complete slot (orphan_from told dump probe same roots slot unlisted held))
      ])
    ]

    none_lower : (f : Fault) → phase_of f < 4 → IsEarlyThere told roots dump probe f → ⊥
    none_lower f low is = let is_place = (there f (complete f (omega (arith, low)) (there_low f low is))).1 in omega (arith, low, is_place)

    -- ---- their order

    abbrev Differ : code.Fault → code.Fault → Type 0
    Differ x y = place x ≡ place y → ⊥

    old_of : (x : code.Fault) → Contains early x → IsThere roots dump probe (fault_of x) × (phase_of (fault_of x) ≡ 4)
    old_of x has = there (fault_of x) (in_map_from fault_of early x has)

    differ_old : AllPairs Differ early
    differ_old i j d less within =
        let x = get_or early i d in
        let y = get_or early j d in
        let is_x = old_of x (Contains-get_or early i d (omega (arith, less, within))) in
        let is_y = old_of y (Contains-get_or early j d within) in
        differ_of (fault_of x) (fault_of y) (placed (fault_of x) is_x.1) (placed (fault_of y) is_y.1) (slot_in (fault_of x) is_x.1 (early_there (fault_of x) is_x.0)) (slot_in (fault_of y) is_y.1 (early_there (fault_of y) is_y.0))
        (image_at s) (pairs_of_map (λ f g. IsTrue (is_before (image_at s) f g)) fault_of early rising i j d less within)

    differ_orphans : AllPairs Differ (map (λ slot. codes.Orphan slot) orphans)
    differ_orphans = pairs_map Differ (λ slot. codes.Orphan slot) orphans (λ i j d less within e. (let up = all.rising i j d less within in omega (arith, up, e)))

    differ_across : (x y : code.Fault) → Contains early x → Contains (map (λ slot. codes.Orphan slot) orphans) y → Differ x y
    unfolding placed
    differ_across x y has_x has_y e =
        let is_x = old_of x has_x in
        let p = placed (fault_of x) is_x.1 in
        let orphan : IsMade (λ slot. codes.Orphan slot) orphans y = in_map_to (λ slot. codes.Orphan slot) orphans y has_y in
        let some = all.each orphan.from orphan.has in
        let at_y : place y ≡ 3 * slot_number orphan.from + 1 = ap place (sym orphan.is) in
        let at_x = p.place in
        let small = p.small in
        let number : slot_number p.slot ≡ slot_number orphan.from = omega (arith, e, at_x, at_y, small) in
        let slots : p.slot ≡ orphan.from =
        slot_number-same p.slot orphan.from (slot_in (fault_of x) is_x.1 (early_there (fault_of x) is_x.0)) (slot_in (Orphan orphan.from) refl (inr (orphan_to told dump probe same roots orphan.from some))) number in
        some.is.not_listed (subst (λ x. Contains (slots_of dump) x) (slots ∙ sym some.of_slot) (slot_listed (fault_of x) is_x.1 is_x.0))

    up : IsNonDecreasingBy place new → AllPairs (λ x y. place x < place y) new
    up sorted = rise_in_order place joined new (pairs_append Differ early (map (λ slot. codes.Orphan slot) orphans) differ_old differ_orphans differ_across) added.moved sorted

    abbrev Before : Fault → Fault → Type 0
    Before f g = IsTrue (is_before (image_at s) f g)

    rises : AllPairs Before (map fault_of new)
    rises = elim added.sorted [
      | inl same ↦ subst (λ (l : List code.Fault). AllPairs Before (map fault_of l)) (sym same) rising
      | inr sorted ↦ pairs_map Before fault_of new (λ i j d less within.
          let x = get_or new i d in
          let y = get_or new j d in
          let is_x = in_new (fault_of x) (in_map_from fault_of new x (Contains-get_or new i d (omega (arith, less, within)))) in
          let is_y = in_new (fault_of y) (in_map_from fault_of new y (Contains-get_or new j d within)) in
          before_of (fault_of x) (fault_of y) (placed (fault_of x) is_x.1) (placed (fault_of y) is_y.1) (slot_in (fault_of x) is_x.1 is_x.0) (slot_in (fault_of y) is_y.1 is_y.0) (up sorted i j d less within) (image_at s))
    ]

    line_of : (f : Fault) → IsEarlyThere told roots dump probe f → phase_of f ≡ 4 → IsEarlyLine told roots dump probe f
    line_of f is phase = record {
      early = omega (arith, phase);
      there = is;
      none_earlier = λ g less there. none_lower g (omega (arith, less, phase)) there;
      first = λ g subjects before there. late_alone (image_at s) g f (omega (arith, phase)) subjects before;
    }

    pub all_places : AreAllEarly told roots dump probe (map fault_of new)
    all_places = record {
      each = λ f has. (let is = in_new f has in line_of f is.0 is.1);
      complete = λ f line. has_all f line.early line.there;
      rising = rises;
    }

    -- where the list has none, none is there
    pub no_place : map fault_of new ≡ [] → (f : Fault) → phase_of f < 5 → IsEarlyThere told roots dump probe f → ⊥
    no_place none f low is = in_nil f (subst (λ (l : List Fault). Contains l f) none (has_all f low is))
