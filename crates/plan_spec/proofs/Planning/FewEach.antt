-- How many writes of a plan are made to one slot.
use Rattle.std.proofs.Common.{◌≡◌, ℕ, ◌+◌, ◌≤◌, ◌<◌, inl, inr, List, [], ◌∷◌, ◌++◌, refl, Bool, false, cond, arith, ◌∙◌, ap, subst, map}
use Rattle.std.specs.List.{Contains, count_by}
use Rattle.std.proofs.lemmas.List.Sums.{sum_by-append, sum_by-cons, count_by-le-length}
use Rattle.pci_spec.specs.Slot.{Slot, same_slot}
use Rattle.pci_spec.specs.Machine.{Write}
use Rattle.plan_spec.specs.Planning.PlanWrites.{Change, closing_of, registers_of, opening_of, closing_writes, register_writes, opening_writes, plan_writes, most_writes}
use Rattle.pci_spec.proofs.Members.{in_nil, in_cons_cases, in_head, in_tail, pairs_head, pairs_tail}
use Rattle.plan_spec.proofs.Planning.EachChanges.{few_writes}
use Rattle.plan_spec.proofs.Planning.Staging.{Rise, number_of, closing_to, register_to, opening_to}
use Rattle.plan_spec.proofs.Planning.Writes.{other_number}

module _ (slot : Slot) where
  abbrev is_here : Write → Bool
  is_here w = same_slot w.slot slot

  abbrev count : List Write → ℕ
  count writes = count_by is_here writes

  count_both : (xs ys : List Write) → count (xs ++ ys) ≡ count xs + count ys
  count_both xs ys = sum_by-append (λ w. cond (is_here w) 1 0) xs ys

  count_none : (ws : List Write) → ((w : Write) → Contains ws w → is_here w ≡ false) → count ws ≡ 0
  count_none [] other = refl
  count_none (w ∷ ws) other =
      let e : count (w ∷ ws) ≡ cond (is_here w) 1 0 + count ws = sum_by-cons (λ v. cond (is_here v) 1 0) w ws in
      let first : ◌≡◌ {A = ℕ} (cond (is_here w) 1 0) 0 = ap (λ b. cond b 1 0) (other w (in_head w ws)) in
      let rest = count_none ws (λ v has. other v (in_tail w ws v has)) in
      omega (arith, e, first, rest)

  -- the writes of each kind
  abbrev total : List Change → ℕ
  total changes = count (closing_writes changes) + (count (register_writes changes) + count (opening_writes changes))

  count_all : (changes : List Change) → count (plan_writes changes) ≡ total changes
  count_all changes =
      count_both (closing_writes changes) (register_writes changes ++ opening_writes changes) ∙ ap (λ n. count (closing_writes changes) + n) (count_both (register_writes changes) (opening_writes changes))

  total_more : (c : Change) (changes : List Change) → total (c ∷ changes) ≡ total (c ∷ []) + total changes
  total_more c changes =
      let closing = count_both (closing_writes changes) (closing_of c) in
      let registers = count_both (registers_of c) (register_writes changes) in
      let opening = count_both (opening_of c) (opening_writes changes) in
      let one_registers = count_both (registers_of c) [] in
      let one_opening = count_both (opening_of c) [] in
      omega (arith, closing, registers, opening, one_registers, one_opening)

  total_none : (changes : List Change) → ((c : Change) → Contains changes c → same_slot c.old.slot slot ≡ false) → total changes ≡ 0
  total_none changes other =
      let at : (c : Change) (w : Write) → Contains changes c → c.old.slot ≡ w.slot → is_here w ≡ false = λ c w listed same. subst (λ s. same_slot s slot ≡ false) same (other c listed) in
      let closing = count_none (closing_writes changes) (λ w has. let of = closing_to changes w has in at of.c w of.listed (ap (λ (x : Write). x.slot) of.is)) in
      let registers = count_none (register_writes changes) (λ w has. let of = register_to changes w has in at of.c w of.listed (ap (λ (x : Write). x.slot) of.is)) in
      let opening = count_none (opening_writes changes) (λ w has. let of = opening_to changes w has in at of.c w of.listed (ap (λ (x : Write). x.slot) of.is)) in
      omega (arith, closing, registers, opening)

  total_of_one : (c : Change) → total (c ∷ []) ≤ most_writes c
  total_of_one c =
      let all = count_all (c ∷ []) in
      let few = few_writes (c ∷ []) in
      let less = count_by-le-length is_here (plan_writes (c ∷ [])) in
      let s = sum_by-cons (λ n. n) (most_writes c) (map most_writes []) in
      omega (arith, all, few, less, s)

number_differs : (c d : Change) → (number_of c < number_of d) → same_slot c.old.slot d.old.slot ≡ false
number_differs c d less = other_number c.old.slot d.old.slot (λ same. let impossible : ⊥ = omega (arith, less, same) in impossible)

number_differs_too : (c d : Change) → (number_of c < number_of d) → same_slot d.old.slot c.old.slot ≡ false
number_differs_too c d less = other_number d.old.slot c.old.slot (λ same. let impossible : ⊥ = omega (arith, less, same) in impossible)

total_each : (changes : List Change) → Rise changes → (c : Change) → Contains changes c → total c.old.slot changes ≤ most_writes c
total_each [] rise c has = absurd (in_nil c has)
total_each (d ∷ changes) rise c has = elim (in_cons_cases d changes c has) [
  | inl is ↦
      let one = total_of_one d.old.slot d in
      let rest = total_none d.old.slot changes (λ e listed. number_differs_too d e (pairs_head (λ c d. number_of c < number_of d) d changes e rise listed)) in
      let more = total_more d.old.slot d changes in
      subst (λ (x : Change). total x.old.slot (d ∷ changes) ≤ most_writes x) is (omega (arith, one, rest, more))
  | inr later ↦
      let less = pairs_head (λ c d. number_of c < number_of d) d changes c rise later in
      let none = total_none c.old.slot (d ∷ []) (λ e listed. elim (in_cons_cases d [] e listed) [
        | inl same ↦ subst (λ (x : Change). same_slot x.old.slot c.old.slot ≡ false) same (number_differs d c less)
        | inr nothing ↦ absurd (in_nil e nothing)
      ]) in
      let rest = total_each changes (pairs_tail (λ c d. number_of c < number_of d) d changes rise) c later in
      let more = total_more c.old.slot d changes in
      omega (arith, none, rest, more)
]

-- to each slot no more writes are made than there are registers, and two to Command
pub few_at_each : (changes : List Change) → Rise changes → (c : Change) → Contains changes c → count_by (λ w. same_slot w.slot c.old.slot) (plan_writes changes) ≤ most_writes c
few_at_each changes rise c has =
    let all = count_all c.old.slot changes in
    let few = total_each changes rise c has in
    omega (arith, all, few)
