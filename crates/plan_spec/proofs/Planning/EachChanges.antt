-- Each write of a plan changes the system, and no function has more writes than registers and two to Command.
use Rattle.std.proofs.Common.{◌≡◌, ℕ, zero, suc, ◌+◌, ◌^◌, ◌<◌, ◌≤◌, inl, inr, List, [], ◌∷◌, ◌++◌, refl, Bool, true, false, cond, ◌||◌, arith, sym, ◌∙◌, ap, subst, map, length, get_or, take}
use Rattle.std.specs.Bool.{◌==◌, if◌then◌else◌}
use Rattle.std.specs.List.{All, AllPairs, Contains, flat_map, sum}
use Rattle.std.proofs.lemmas.Bool.{cases_Bool, both_ways, eqb-false}
use Rattle.std.proofs.lemmas.List.{get_or-map, length-append}
use Rattle.std.proofs.lemmas.List.Sums.{sum_by-cons}
use Rattle.std.proofs.lemmas.List.Elements.{All-contains, Contains-append_left, Contains-append_right}
use Rattle.pci_spec.specs.Number.{number_at, has_bit, IsImage}
use Rattle.pci_spec.specs.Slot.{slot_number, same_slot}
use Rattle.pci_spec.specs.Header.{command, layout, address_registers, registers_by}
use Rattle.pci_spec.specs.System.{System, Function, IsSystem, is_bridge}
use Rattle.pci_spec.specs.Machine.{Write, write_function, write_system, system_after}
use Rattle.plan_spec.specs.Plan.{IsMoved}
use Rattle.pci_spec.proofs.Members.{in_head, in_tail, in_map_from, pairs_head, pairs_tail}
use Rattle.pci_spec.proofs.SameSlot.{slot_itself, slots_same}
use Rattle.plan_spec.specs.Planning.Safety.{is_on}
use Rattle.plan_spec.specs.Planning.Fitting.{FitsAt}
use Rattle.plan_spec.specs.Planning.PlanWrites.{Change, olds, closed_command, closing_of, register_write, registers_of, opening_of, closing_writes, register_writes, opening_writes, plan_writes, most_writes}
use Rattle.plan_spec.proofs.Planning.Kept.{images_of}
use Rattle.plan_spec.proofs.Planning.Registers.{number_below}
use Rattle.plan_spec.proofs.Planning.Fit.{moved_itself, fitting_later}
use Rattle.plan_spec.proofs.Planning.Writes.{listed_after, other_number}
use Rattle.plan_spec.proofs.Planning.Staging.{Rise, changes_rise, closing_falls, opening_rises, IsApart, registers_apart, is_register, low_clear, fits, closing_to, register_to, opening_to, closing_write, number_write, opening_write}
use Rattle.plan_spec.proofs.Planning.Stop.{after_parts}
use Rattle.plan_spec.proofs.Planning.Reached.{moves, old_listed, image_of, all_fit, in_closing, in_later, closing_quiet, register_quiet, moved_closed, closed_then, closed_le}
use Rattle.plan_spec.proofs.Planning.Settled.{moved_step, IsQuiet, function_after, system_by_function, function_parts, function_moved, quiet_keeps, untouched, write_shows}

-- each write of a list changes what the ones before it leave
abbrev pub EachChanges : System → List Write → Type 0
EachChanges s [] = Unit {0}
EachChanges s (x ∷ writes) = (write_system s x ≡ s → ⊥) × EachChanges (write_system s x) writes

pub each_parts : (s : System) (a b : List Write) → EachChanges s a → EachChanges (system_after s a) b → EachChanges s (a ++ b)
each_parts s [] b first second = second
each_parts s (x ∷ a) b (one, rest) second = (one, each_parts (write_system s x) a b rest second)

pub each_at : (s : System) (writes : List Write) → EachChanges s writes → (k : ℕ) → k < length writes → system_after s (take (suc k) writes) ≡ system_after s (take k writes) → ⊥
each_at s [] each k less same = let impossible : ⊥ = omega (arith, less) in impossible
each_at s (x ∷ writes) (one, rest) zero less same = one same
each_at s (x ∷ writes) (one, rest) (suc k) less same = each_at (write_system s x) writes rest k (omega (arith, less)) same

-- ---- writes that share no byte, each of which differs from what is there

-- what a write finds: a function that comes of one of the start, whose register shows another number
pub record Finds (start s : System) (x : Write) : Type 0 where
  pub before : Function
  pub known : Contains start before
  pub f : Function
  pub listed : Contains s f
  pub moved : IsMoved before f
  pub here : same_slot before.slot x.slot ≡ true
  pub inside : x.offset + x.width ≤ 256
  pub small : x.value < 256 ^ x.width
  pub differs : number_at f.image x.offset x.width ≡ x.value → ⊥

module _ (start : System) (images : (f : Function) → Contains start f → IsImage f.image) where
  finds_changes : (s : System) (x : Write) → FitsAt start x → Finds start s x → write_system s x ≡ s → ⊥
  finds_changes s x fit h same =
      let at = h.listed in
      let k = at.0 in
      let is = at.2 in
      let f = h.f in
      let written_is : get_or (write_system s x) k f ≡ write_function x f = get_or-map (write_function x) s k f f at.1 ∙ ap (write_function x) is in
      let unchanged : write_function x f ≡ f = sym written_is ∙ ap (λ (t : System). get_or t k f) same ∙ is in
      let fits = fitting_later x h.before f (images h.before h.known) h.moved (fit h.before h.known h.here) in
      h.differs (sym (ap (λ (g : Function). number_at g.image x.offset x.width) unchanged)
      ∙ write_shows f x h.moved.image fits h.small (ap (λ slot. same_slot slot x.slot) h.moved.slot ∙ h.here))

  -- an earlier write that shares no byte with one leaves what that one finds
  finds_later : (s : System) (x y : Write) → FitsAt start x → IsApart x y → Finds start s y → Finds start (write_system s x) y
  finds_later s x y fit apart h =
      let f = h.f in
      let quiet : IsQuiet f.slot y.offset y.width x = elim (cases_Bool (same_slot f.slot x.slot)) [
        | inr other ↦ inl other
        | inl at_x ↦ elim apart [
          | inl differ ↦
              let at_y : same_slot f.slot y.slot ≡ true = ap (λ slot. same_slot slot y.slot) h.moved.slot ∙ h.here in
              absurd (both_ways (same_slot x.slot y.slot) differ (ap (λ slot. same_slot slot y.slot) (sym (slots_same f.slot x.slot at_x)) ∙ at_y))
          | inr (inl before) ↦ inr (inr before)
          | inr (inr after) ↦ inr (inl after)
        ]
      ] in
      record {
        before = h.before;
        known = h.known;
        f = write_function x f;
        listed = listed_after s x f h.listed;
        moved = moved_step h.before (images h.before h.known) f x h.moved (λ here. fit h.before h.known here);
        here = h.here;
        inside = h.inside;
        small = h.small;
        differs = λ e. h.differs (sym (quiet_keeps f x y.offset y.width h.inside quiet) ∙ e);
      }

  pub each_by_finds : (s : System) (writes : List Write) → ((x : Write) → Contains writes x → FitsAt start x) → AllPairs IsApart writes → ((x : Write) → Contains writes x → Finds start s x) → EachChanges s writes
  each_by_finds s [] fit apart finds = tt
  each_by_finds s (x ∷ writes) fit apart finds = (
    finds_changes s x (fit x (in_head x writes)) (finds x (in_head x writes)),
    each_by_finds (write_system s x) writes (λ y has. fit y (in_tail x writes y has)) (pairs_tail IsApart x writes apart)
        (λ y has. finds_later s x y (fit x (in_head x writes)) (pairs_head IsApart x writes y apart has) (finds y (in_tail x writes y has))),
  )

-- ---- the three parts of a plan's writes

on_is_open : (f : Function) → is_on f ≡ true → command f.image ≡ closed_command f → ⊥
on_is_open f on e =
    let n = closed_command f in
    let dark : (i : ℕ) → i < 2 → has_bit (command f.image) i ≡ false = λ i less. ap (λ k. has_bit k i) e ∙ low_clear (command f.image) i less in
    both_ways (is_on f) (ap (λ b. b || has_bit (command f.image) 1) (dark 0 (omega arith)) ∙ dark 1 (omega arith)) on

module _ (changes : List Change) (system : IsSystem (olds changes)) (moved : All (λ (c : Change). IsMoved c.old c.new) changes) where
  images : (f : Function) → Contains (olds changes) f → IsImage f.image
  images f listed = images_of (olds changes) system f listed

  rise : Rise changes
  rise = changes_rise changes system

  fit_all : (x : Write) → Contains (plan_writes changes) x → FitsAt (olds changes) x
  fit_all x has = All-contains (FitsAt (olds changes)) (plan_writes changes) x (fits changes system moved) has

  differ_slots : (x y : Write) → (slot_number x.slot ≡ slot_number y.slot → ⊥) → IsApart x y
  differ_slots x y differ = inl (other_number x.slot y.slot differ)

  listed_now : (writes : List Write) (c : Change) → Contains changes c → Contains (system_after (olds changes) writes) (function_after c.old writes)
  listed_now writes c listed =
      let there = in_map_from (λ f. function_after f writes) (olds changes) c.old (old_listed changes system moved c listed) in
      subst (λ (t : System). Contains t (function_after c.old writes)) (sym (system_by_function (olds changes) writes)) (there.0, there.1, there.2)

  closing_changes : EachChanges (olds changes) (closing_writes changes)
  closing_changes =
      each_by_finds (olds changes) images (olds changes) (closing_writes changes) (λ x has. fit_all x (in_closing changes system moved x has))
      (λ i j d less within. differ_slots (get_or (closing_writes changes) i d) (get_or (closing_writes changes) j d) (λ e. let f = closing_falls changes rise i j d less within in let impossible : ⊥ = omega (arith, f, e) in impossible))
      (λ x has.
      let k = closing_to changes x has in
      let c = k.c in
      let is = image_of changes system moved c k.listed in
      let in_olds = old_listed changes system moved c k.listed in
      subst (Finds (olds changes) (olds changes)) k.is record {
        before = c.old;
        known = (in_olds.0, in_olds.1, in_olds.2);
        f = c.old;
        listed = (in_olds.0, in_olds.1, in_olds.2);
        moved = moved_itself c.old is;
        here = slot_itself c.old.slot;
        inside = omega arith;
        small = (let small = number_below c.old.image 4 is 2 in let less = closed_le (command c.old.image) in omega (arith, small, less));
        differs = on_is_open c.old k.on;
      })

  register_changes : EachChanges (system_after (olds changes) (closing_writes changes)) (register_writes changes)
  register_changes =
      each_by_finds (olds changes) images (system_after (olds changes) (closing_writes changes)) (register_writes changes)
      (λ x has. fit_all x (in_later changes system moved x (Contains-append_left (register_writes changes) (opening_writes changes) x has)))
      (registers_apart changes system rise)
      (λ x has.
      let k = register_to changes x has in
      let c = k.c in
      let at = is_register c.old k.r k.register in
      let high = at.high in
      let is = image_of changes system moved c k.listed in
      let in_olds = old_listed changes system moved c k.listed in
      let now : number_at (function_after c.old (closing_writes changes)).image k.r.0 k.r.1 ≡ number_at c.old.image k.r.0 k.r.1 =
      untouched c.old is c.old (closing_writes changes) k.r.0 k.r.1 (moved_itself c.old is) (omega (arith, high))
      (λ y in_y here. all_fit changes system moved c k.listed y (in_closing changes system moved y in_y) here) (closing_quiet changes system moved c k.r at.low) in
      subst (Finds (olds changes) (system_after (olds changes) (closing_writes changes))) k.is record {
        before = c.old;
        known = (in_olds.0, in_olds.1, in_olds.2);
        f = function_after c.old (closing_writes changes);
        listed = listed_now (closing_writes changes) c k.listed;
        moved = moved_closed changes system moved c k.listed;
        here = slot_itself c.old.slot;
        inside = omega (arith, high);
        small = number_below c.new.image k.r.0 (moves changes system moved c k.listed).image k.r.1;
        differs = λ e. eqb-false (number_at c.new.image k.r.0 k.r.1) (number_at c.old.image k.r.0 k.r.1) k.differs (sym e ∙ now);
      })

  opening_changes : EachChanges (system_after (system_after (olds changes) (closing_writes changes)) (register_writes changes)) (opening_writes changes)
  opening_changes =
      let before = closing_writes changes ++ register_writes changes in
      let joined : system_after (olds changes) before ≡ system_after (system_after (olds changes) (closing_writes changes)) (register_writes changes) = after_parts (olds changes) (closing_writes changes) (register_writes changes) in
      subst (λ (t : System). EachChanges t (opening_writes changes)) joined
      (each_by_finds (olds changes) images (system_after (olds changes) before) (opening_writes changes)
      (λ x has. fit_all x (in_later changes system moved x (Contains-append_right (register_writes changes) (opening_writes changes) x has)))
      (λ i j d less within. differ_slots (get_or (opening_writes changes) i d) (get_or (opening_writes changes) j d) (λ e. let f = opening_rises changes rise i j d less within in let impossible : ⊥ = omega (arith, f, e) in impossible))
      (λ x has.
      let k = opening_to changes x has in
      let c = k.c in
      let is = image_of changes system moved c k.listed in
      let in_olds = old_listed changes system moved c k.listed in
      let fit_registers = λ (y : Write) (in_y : Contains (register_writes changes) y) (here : same_slot c.old.slot y.slot ≡ true).
      all_fit changes system moved c k.listed y (in_later changes system moved y (Contains-append_left (register_writes changes) (opening_writes changes) y in_y)) here in
      let closed = moved_closed changes system moved c k.listed in
      let now : command (function_after c.old before).image ≡ closed_command c.old =
      ap (λ (f : Function). command f.image) (function_parts c.old (closing_writes changes) (register_writes changes))
      ∙ untouched c.old is (function_after c.old (closing_writes changes)) (register_writes changes) 4 2 closed (omega arith) fit_registers (register_quiet changes system moved c)
      ∙ closed_then changes system moved c k.listed in
      subst (Finds (olds changes) (system_after (olds changes) before)) k.is record {
        before = c.old;
        known = (in_olds.0, in_olds.1, in_olds.2);
        f = function_after c.old before;
        listed = listed_now before c k.listed;
        moved = subst (λ (f : Function). IsMoved c.old f) (sym (function_parts c.old (closing_writes changes) (register_writes changes)))
            (function_moved c.old is (function_after c.old (closing_writes changes)) (register_writes changes) closed fit_registers);
        here = slot_itself c.old.slot;
        inside = omega arith;
        small = number_below c.new.image 4 (moves changes system moved c k.listed).image 2;
        differs = λ e. eqb-false (command c.new.image) (closed_command c.old) k.differs (sym e ∙ now);
      }))

  pub each_changes : (k : ℕ) → k < length (plan_writes changes) → system_after (olds changes) (take (suc k) (plan_writes changes)) ≡ system_after (olds changes) (take k (plan_writes changes)) → ⊥
  each_changes = each_at (olds changes) (plan_writes changes)
      (each_parts (olds changes) (closing_writes changes) (register_writes changes ++ opening_writes changes) closing_changes
      (each_parts (system_after (olds changes) (closing_writes changes)) (register_writes changes) (opening_writes changes) register_changes opening_changes))

-- ---- how many

one_choice : (b : Bool) (w : Write) → length (cond b (w ∷ []) []) ≤ 1
one_choice true w = omega arith
one_choice false w = omega arith

one_other : (b : Bool) (w : Write) → length (cond b [] (w ∷ [])) ≤ 1
one_other true w = omega arith
one_other false w = omega arith

length_of_ones : {X : Type 0} (f : X → List Write) (xs : List X) → ((x : X) → length (f x) ≤ 1) → length (flat_map f xs) ≤ length xs
length_of_ones f [] one = omega arith
length_of_ones f (x ∷ xs) one =
    let e = length-append (f x) (flat_map f xs) in
    let h = one x in
    let r = length_of_ones f xs one in
    omega (arith, e, h, r)

registers_count : (bridge : Bool) → length (registers_by bridge) + 2 ≡ (if bridge then 11 else 9)
registers_count true = refl
registers_count false = refl

pub few_writes : (changes : List Change) → length (plan_writes changes) ≤ sum (map most_writes changes)
few_writes [] = omega arith
few_writes (c ∷ changes) =
    let rest = few_writes changes in
    let closing = length-append (closing_writes changes) (closing_of c) in
    let registers = length-append (registers_of c) (register_writes changes) in
    let opening = length-append (opening_of c) (opening_writes changes) in
    let all = length-append (closing_writes (c ∷ changes)) (register_writes (c ∷ changes) ++ opening_writes (c ∷ changes)) in
    let later = length-append (register_writes (c ∷ changes)) (opening_writes (c ∷ changes)) in
    let all_rest = length-append (closing_writes changes) (register_writes changes ++ opening_writes changes) in
    let later_rest = length-append (register_writes changes) (opening_writes changes) in
    let one_closing = one_choice (is_on c.old) (closing_write c) in
    let one_opening = one_other (command c.new.image == closed_command c.old) (opening_write c) in
    let few = length_of_ones (register_write c) (address_registers (layout c.old.image)) (λ r. one_other (number_at c.new.image r.0 r.1 == number_at c.old.image r.0 r.1) (number_write c r)) in
    let count = registers_count (is_bridge c.old) in
    let s = sum_by-cons (λ n. n) (most_writes c) (map most_writes changes) in
    omega (arith, rest, closing, registers, opening, all, later, all_rest, later_rest, one_closing, one_opening, few, count, s)
