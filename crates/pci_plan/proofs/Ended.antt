-- After all writes, each read back, every register that is compared shows the number of the system that the writes lead to.
use Rattle.std.proofs.Common.{◌≡◌, ℕ, suc, ◌+◌, ◌<◌, ◌≤◌, ◌⊎◌, ◌^◌, inl, inr, List, [], ◌∷◌, refl, Bool, true, false, ◌&&◌, ◌||◌, cond, arith, sym, ◌∙◌, ap, subst, length, take, Some}
use Rattle.std.specs.Bool.{nat_le, ◌==◌}
use Rattle.std.specs.List.{All, AllZip, Contains, list_all, slice_get}
use Rattle.std.specs.Option.{option_map}
use Rattle.std.proofs.lemmas.Bool.{and_parts, cases_Bool, both_ways, eqb-true, leb-true, or_cases}
use Rattle.std.proofs.lemmas.List.{take_all}
use Rattle.std.proofs.lemmas.List.Elements.{All-head, All-tail}
use Rattle.pci_spec.specs.Number.{number_at, IsImage}
use Rattle.pci_spec.specs.Slot.{Slot, same_slot, slot_number}
use Rattle.pci_spec.specs.Header.{layout, address_registers, registers_by}
use Rattle.pci_spec.specs.System.{System, Function, IsSystem}
use Rattle.pci_spec.specs.Machine.{Target, Write, write_target, write_targets, after_writes, written, write_function, write_system, system_after}
use Rattle.plan_spec.specs.Plan.{IsMoved}
use Rattle.plan_spec.specs.Planning.Fitting.{IsFitting, FitsAt}
use Rattle.pci_spec.proofs.Members.{in_head, in_tail, in_map_to, IsMade}
use Rattle.pci_spec.proofs.Nesting.{one_function}
use Rattle.pci_spec.proofs.Pairs.{member_back}
use Rattle.plan_spec.proofs.Planning.Behind.{all_gives}
use Rattle.plan_spec.proofs.Planning.Fit.{fitting_later, moved_start, system_moves, system_trans, write_moves}
use Rattle.plan_spec.proofs.Planning.Kept.{images_of}
use Rattle.plan_spec.proofs.Planning.Moved.{layout_same}
use Rattle.plan_spec.proofs.Planning.Writes.{same_number}
use Rattle.plan_spec.proofs.Planning.Settled.{IsQuiet, number_outside, quiet_keeps, write_shows}
use Rattle.pci_spec.specs.Port.{target_at, ShowsNumber}
use Rattle.pci_spec.proofs.SameSlot.{slots_same}
use Rattle.pci_machine.proofs.Targets.{find-map, target_at-slot}
use Rattle.pci_plan.specs.Comparing.{compared, ShowsAll}
use Rattle.pci_plan.specs.Making.{AreWritesMade}
use Rattle.pci_plan.specs.Moves.{IsRegisterWrite}
use Rattle.pci_plan.specs.Applying.{ShowsSystem}
use Rattle.pci_plan.proofs.Makes.{same_place}

-- ---- registers that are compared

abbrev is_one_or_apart : ℕ × ℕ → ℕ × ℕ → Bool
is_one_or_apart r q = (q.0 == r.0 && q.1 == r.1) || (nat_le (r.0 + r.1) q.0 || nat_le (q.0 + q.1) r.0)

each_apart : (bridge : Bool) → list_all (λ r. list_all (is_one_or_apart r) ((0x04, 2) ∷ registers_by bridge)) ((0x04, 2) ∷ registers_by bridge) ≡ true
each_apart true = refl
each_apart false = refl

each_inside : (bridge : Bool) → list_all (λ (q : ℕ × ℕ). nat_le (q.0 + q.1) 256) ((0x04, 2) ∷ registers_by bridge) ≡ true
each_inside true = refl
each_inside false = refl

is_inside : (image : List ℕ) (r : ℕ × ℕ) → Contains (compared image) r → r.0 + r.1 ≤ 256
is_inside image r listed =
    leb-true (r.0 + r.1) 256 (all_gives (λ (q : ℕ × ℕ). nat_le (q.0 + q.1) 256) (compared image) r (each_inside (layout image == 1)) listed)

same_pair : (r q : ℕ × ℕ) → (q.0 == r.0 && q.1 == r.1) ≡ true → q ≡ r
same_pair r q h =
    let parts = and_parts (q.0 == r.0) (q.1 == r.1) h in
    let o = eqb-true q.0 r.0 parts.0 in
    let w = eqb-true q.1 r.1 parts.1 in
    λ i. (o i, w i)

-- two of them are one, or share no byte
one_or_apart : (image : List ℕ) (r q : ℕ × ℕ) → Contains (compared image) r → Contains (compared image) q → (q ≡ r) ⊎ ((r.0 + r.1 ≤ q.0) ⊎ (q.0 + q.1 ≤ r.0))
one_or_apart image r q in_r in_q =
    let row = all_gives (λ x. list_all (is_one_or_apart x) (compared image)) (compared image) r (each_apart (layout image == 1)) in_r in
    let pair = all_gives (is_one_or_apart r) (compared image) q row in_q in
    elim (or_cases (q.0 == r.0 && q.1 == r.1) (nat_le (r.0 + r.1) q.0 || nat_le (q.0 + q.1) r.0) pair) [
      | inl same ↦ inl (same_pair r q same)
      | inr apart ↦ inr (elim (or_cases (nat_le (r.0 + r.1) q.0) (nat_le (q.0 + q.1) r.0) apart) [
        | inl before ↦ inl (leb-true (r.0 + r.1) q.0 before)
        | inr behind ↦ inr (leb-true (q.0 + q.1) r.0 behind)
      ])
    ]

-- ---- what one write leaves shown

target_after : (targets : List Target) (x : Write) (slot : Slot) → target_at (write_targets targets x) slot ≡ option_map (write_target x) (target_at targets slot)
target_after targets x slot = find-map (λ (t : Target). same_slot t.slot slot) (write_target x) (λ t. ap (λ s. same_slot s slot) (same_place x t)) targets

quiet_target : (t : Target) (x : Write) (o w : ℕ) → o + w ≤ 256 → IsQuiet t.slot o w x → number_at (write_target x t).image o w ≡ number_at t.image o w
quiet_target t x o w inside quiet = elim (cases_Bool (same_slot t.slot x.slot)) [
  | inr other ↦ ap (λ b. number_at (cond b (record t { image = written t x.offset x.width x.value }) t).image o w) other
  | inl here ↦ ap (λ b. number_at (cond b (record t { image = written t x.offset x.width x.value }) t).image o w) here ∙ elim quiet [
    | inl differ ↦ absurd (both_ways (same_slot t.slot x.slot) differ here)
    | inr apart ↦ number_outside t x.offset x.width x.value o w inside apart
  ]
]

quiet_shows : (targets : List Target) (x : Write) (slot : Slot) (o w v : ℕ) → o + w ≤ 256 → IsQuiet slot o w x → ShowsNumber targets slot o w v → ShowsNumber (write_targets targets x) slot o w v
quiet_shows targets x slot o w v inside quiet (t, at, e) =
    let here = target_at-slot targets slot t at in
    (write_target x t, target_after targets x slot ∙ ap (option_map (write_target x)) at, e ∙ sym (quiet_target t x o w inside (subst (λ s. IsQuiet s o w x) (sym here) quiet)))

-- ---- each write is read back as it was made

abbrev ReadBack : List Target → List Write → Type 0
ReadBack targets [] = Unit {0}
ReadBack targets (x ∷ writes) = ShowsNumber (write_targets targets x) x.slot x.offset x.width x.value × ReadBack (write_targets targets x) writes

-- from what is made of each place
read_back_by_place : (targets : List Target) (writes : List Write)
    → ((k : ℕ) (w : Write) → k < length writes → slice_get writes k ≡ Some w → ShowsNumber (after_writes targets (take (suc k) writes)) w.slot w.offset w.width w.value)
    → ReadBack targets writes
read_back_by_place targets [] shown = tt
read_back_by_place targets (x ∷ writes) shown =
    (shown 0 x (omega arith) refl, read_back_by_place (write_targets targets x) writes (λ k w less at. shown (suc k) w (omega (arith, less)) at))

-- ---- one write

module _ (x : Write) (targets : List Target) (t : System) (images : (f : Function) → Contains t f → IsImage f.image)
    (fits : (f : Function) → Contains t f → same_slot f.slot x.slot ≡ true → IsFitting x f)
    (register : (f : Function) → Contains t f → same_slot f.slot x.slot ≡ true → Contains (compared f.image) (x.offset, x.width))
    (small : x.value < 256 ^ x.width) (shown : ShowsNumber (write_targets targets x) x.slot x.offset x.width x.value) (old : ShowsSystem targets t) where
  left_shown : (f : Function) → Contains t f → (r : ℕ × ℕ) → Contains (compared f.image) r → IsQuiet f.slot r.0 r.1 x
      → ShowsNumber (write_targets targets x) f.slot r.0 r.1 (number_at (write_function x f).image r.0 r.1)
  left_shown f listed r has quiet =
      let inside = is_inside f.image r has in
      subst (λ n. ShowsNumber (write_targets targets x) f.slot r.0 r.1 n) (sym (quiet_keeps f x r.0 r.1 inside quiet))
      (quiet_shows targets x f.slot r.0 r.1 (number_at f.image r.0 r.1) inside quiet (old f listed r has))

  set_shown : (f : Function) → Contains t f → same_slot f.slot x.slot ≡ true → ShowsNumber (write_targets targets x) f.slot x.offset x.width (number_at (write_function x f).image x.offset x.width)
  set_shown f listed here =
      subst (λ slot. ShowsNumber (write_targets targets x) slot x.offset x.width (number_at (write_function x f).image x.offset x.width)) (sym (slots_same f.slot x.slot here))
      (subst (λ n. ShowsNumber (write_targets targets x) x.slot x.offset x.width n) (sym (write_shows f x (images f listed) (fits f listed here) small here)) shown)

  one_shown : (f : Function) → Contains t f → (r : ℕ × ℕ) → Contains (compared f.image) r → ShowsNumber (write_targets targets x) f.slot r.0 r.1 (number_at (write_function x f).image r.0 r.1)
  one_shown f listed r has = elim (cases_Bool (same_slot f.slot x.slot)) [
    | inr other ↦ left_shown f listed r has (inl other)
    | inl here ↦ elim (one_or_apart f.image r (x.offset, x.width) has (register f listed here)) [
      | inr apart ↦ left_shown f listed r has (inr apart)
      | inl is ↦ subst (λ (q : ℕ × ℕ). ShowsNumber (write_targets targets x) f.slot q.0 q.1 (number_at (write_function x f).image q.0 q.1)) is (set_shown f listed here)
    ]
  ]

  all_shown : ShowsSystem (write_targets targets x) (write_system t x)
  all_shown g listed =
      let made : IsMade (write_function x) t g = in_map_to (write_function x) t g listed in
      let f = made.from in
      let same : layout (write_function x f).image ≡ layout f.image = layout_same f (write_function x f) (write_moves x f (images f made.has) (fits f made.has)) (images f made.has) in
      subst (λ (h : Function). ShowsAll (write_targets targets x) h.slot h.image) made.is
      (λ r has. one_shown f made.has r (subst (λ kind. Contains ((0x04, 2) ∷ address_registers kind) r) same has))

-- ---- after all writes

module _ (s : System) (system : IsSystem s) where
  images : (f : Function) → Contains s f → IsImage f.image
  images = images_of s system

  module _ (t : System) (moved : AllZip IsMoved s t) (x : Write) (fit : FitsAt s x) (is : IsRegisterWrite s x) where
    image_now : (g : Function) → Contains t g → IsImage g.image
    image_now g listed = (member_back IsMoved s t moved g listed).2.image

    fits_now : (g : Function) → Contains t g → same_slot g.slot x.slot ≡ true → IsFitting x g
    fits_now g listed here =
        let found = member_back IsMoved s t moved g listed in
        let f = found.0 in
        let m = found.2 in
        fitting_later x f g (images f found.1) m (fit f found.1 (ap (λ slot. same_slot slot x.slot) (sym m.slot) ∙ here))

    register_now : (g : Function) → Contains t g → same_slot g.slot x.slot ≡ true → Contains (compared g.image) (x.offset, x.width)
    register_now g listed here =
        let found = member_back IsMoved s t moved g listed in
        let f = found.0 in
        let m = found.2 in
        let slots : slot_number is.f.slot ≡ slot_number f.slot = ap slot_number is.slot ∙ sym (same_number g.slot x.slot here) ∙ ap slot_number m.slot in
        let same : is.f ≡ f = one_function s system is.f f is.listed found.1 slots in
        subst (λ kind. Contains ((0x04, 2) ∷ address_registers kind) (x.offset, x.width)) (ap (λ (h : Function). layout h.image) same ∙ sym (layout_same f g m (images f found.1))) is.register

    next_moved : AllZip IsMoved s (write_system t x)
    next_moved = system_trans s t (write_system t x) images moved (system_moves x t image_now fits_now)

    next_shown : (targets : List Target) → ShowsNumber (write_targets targets x) x.slot x.offset x.width x.value → ShowsSystem targets t → ShowsSystem (write_targets targets x) (write_system t x)
    next_shown targets shown old = all_shown x targets t image_now fits_now register_now is.small shown old

  ends : (targets : List Target) (t : System) (writes : List Write) → AllZip IsMoved s t → All (FitsAt s) writes → ((w : Write) → Contains writes w → IsRegisterWrite s w)
      → ReadBack targets writes → ShowsSystem targets t → ShowsSystem (after_writes targets writes) (system_after t writes)
  ends targets t [] moved fits each back old = old
  ends targets t (x ∷ writes) moved fits each (shown, back) old =
      let fit = All-head (FitsAt s) x writes fits in
      let is = each x (in_head x writes) in
      ends (write_targets targets x) (write_system t x) writes (next_moved t moved x fit is) (All-tail (FitsAt s) x writes fits) (λ w has. each w (in_tail x writes w has)) back
      (next_shown t moved x fit is targets shown old)

pub writes_end : (s : System) → IsSystem s → (writes : List Write) → All (FitsAt s) writes → ((w : Write) → Contains writes w → IsRegisterWrite s w) → (before after : List Target) → ShowsSystem before s
    → AreWritesMade before writes (length writes) after → ShowsSystem after (system_after s writes)
writes_end s system writes fits each before after old made =
    let all : after ≡ after_writes before writes = made.made ∙ ap (after_writes before) (take_all (length writes) writes (omega arith)) in
    subst (λ ts. ShowsSystem ts (system_after s writes)) (sym all)
    (ends s system before s writes (moved_start s (images_of s system)) fits each (read_back_by_place before writes made.read_back) old)
