-- One pass over all parts, each after what tells whether it stands, finds which of them stand.
use Rattle.std.proofs.Common.{◌≡◌, ◌≢◌, ℕ, ◌+◌, ◌<◌, ◌≤◌, inl, inr, ◌⊎◌, List, get_or, length, Bool, true, false, ◌&&◌, ◌||◌, not, arith, sym, ◌∙◌, ap, subst}
use Rattle.std.specs.Bool.{nat_lt, ◌==◌}
use Rattle.std.specs.List.{Contains, list_all}
use Rattle.std.proofs.lemmas.Bool.{cases_Bool, cases_eq, and_parts, and_from, or_cases, both_ways, not_from_true, not-true, ltb-true, false_from_ne_true}
use Rattle.std.proofs.lemmas.List.Elements.{Contains-get_or}
use Rattle.std.proofs.lemmas.List.{get_or_default}
use Rattle.pci_spec.specs.Decoded.{Range}
use Rattle.pci_spec.specs.System.{System, Window}
use Rattle.pci_spec.specs.Bus.{are_siblings, IsNested}
use Rattle.pci_spec.proofs.BusRanges.{all_gives, all_from}
use Rattle.settle_spec.specs.FirstPlace.{ranges_are_apart}
use Rattle.settle_spec.specs.Lists.{Request}
use Rattle.settle_spec.specs.Parts.{FunctionPart, system_parts, addresses, is_part, are_same_space}
use Rattle.settle_spec.specs.Stands.{part_space, are_beside, window_part, takes_from, stands_if, stands, told_part_precedes}
use Rattle.settle_laws.specs.Passes.{AreInOrder, IsAmong, AreFirstTold, AreTakenBeside}
use Rattle.settle_laws.specs.Order.{level, comes_first}
use Rattle.settle_laws.proofs.Order.{first_first, not_itself}
use Rattle.settle_laws.proofs.Standing.{agree_before, by_asked, one_level, part_of, taking, stands_alone}

by_same_level : (a b : ℕ) (x : Bool) → a ≡ b → (nat_lt a b || (a == b && x)) ≡ true → x ≡ true
by_same_level a b x same h = elim (or_cases (nat_lt a b) (a == b && x) h) [
  | inl less ↦ (let up = ltb-true a b less in absurd (let no : ⊥ = omega (arith, up, same) in no))
  | inr both ↦ (and_parts (a == b) x both).1
]

module _ (q : Request) (s : System) (nested : IsNested q.roots s) (rs : List FunctionPart) (ordered : AreInOrder q s rs) where
  pub told_none : (test : FunctionPart → Bool) → ((r : FunctionPart) → test r ≡ false) → AreFirstTold q s rs 0 test
  told_none test none = record {
    each = λ k d less within. absurd (let no : ⊥ = omega (arith, less) in no);
    only = λ r listed is. absurd (both_ways (test r) (none r) is);
  }

  pub part_at : (k : ℕ) (d : FunctionPart) → k < length rs → Contains (system_parts q s) (get_or rs k d)
  part_at k d within = ordered.only (get_or rs k d) (Contains-get_or rs k d within)

  -- what comes first isn't one of those after it
  not_later : (j k : ℕ) (d : FunctionPart) → j ≤ k → k < length rs → comes_first q s (get_or rs k d) (get_or rs j d) ≡ true → ⊥
  not_later j k d le within first = elim (cases_eq j k) [
    | inl same ↦ both_ways (comes_first q s (get_or rs k d) (get_or rs k d)) (not_itself q s (get_or rs k d)) (subst (λ n. comes_first q s (get_or rs k d) (get_or rs n d) ≡ true) same first)
    | inr differ ↦
        both_ways (comes_first q s (get_or rs j d) (get_or rs j d)) (not_itself q s (get_or rs j d))
        (first_first q s (get_or rs j d) (get_or rs k d) (get_or rs j d) (ordered.order j k d (omega (arith, le, differ)) within) first)
  ]

  module _ (count : ℕ) (test : FunctionPart → Bool) (told : AreFirstTold q s rs count test) (within : count < length rs) (r : FunctionPart) (r_is : get_or rs count r ≡ r) where
    r_listed : Contains (system_parts q s) r
    r_listed = subst (Contains (system_parts q s)) r_is (part_at count r within)

    -- what stands beside it comes before it
    precedes_it : (t : FunctionPart) → Contains (system_parts q s) t → test t ≡ true → are_beside q t r ≡ true → told_part_precedes q s t r ≡ true
    precedes_it t listed is beside =
        let among = told.only t (part_of q s t listed).listed is in
        let siblings = (and_parts (are_siblings q.roots t.function.slot.bus r.function.slot.bus) (are_same_space (part_space t) (part_space r)) beside).0 in
        let low = among.first in
        let first : comes_first q s t r ≡ true =
        subst (λ x. comes_first q s t x ≡ true) (get_or_default rs count t r within ∙ r_is)
        (subst (λ x. comes_first q s x (get_or rs count t) ≡ true) among.is (ordered.order among.at count t low within)) in
        by_same_level (level q t.function.slot.bus) (level q r.function.slot.bus) (told_part_precedes q s t r) (one_level q s t.function.slot.bus r.function.slot.bus siblings) first

    -- so it is free of them where it shares no address with them
    pub free_of_taken : (taken : List Range) → AreTakenBeside q s test r taken
        → list_all (λ x. ranges_are_apart x (addresses r)) taken ≡ list_all (λ t. not (takes_from q s t r && test t)) (system_parts q s)
    free_of_taken taken are = elim (cases_Bool (list_all (λ x. ranges_are_apart x (addresses r)) taken)) [
      | inl fine ↦
          fine ∙ sym (all_from (λ t. not (takes_from q s t r && test t)) (system_parts q s) (λ t listed. elim (cases_Bool (takes_from q s t r && test t)) [
            | inl both ↦
                let parts = and_parts (takes_from q s t r) (test t) both in
                let takes = taking q s t r parts.0 in
                absurd (both_ways (ranges_are_apart (addresses t) (addresses r)) (not-true (ranges_are_apart (addresses t) (addresses r)) takes.shares)
                (all_gives (λ x. ranges_are_apart x (addresses r)) taken fine (addresses t) (are.all t listed parts.1 takes.beside)))
            | inr off ↦ ap not off
          ]))
      | inr other ↦
          other ∙ sym (false_from_ne_true (list_all (λ t. not (takes_from q s t r && test t)) (system_parts q s)) (λ all.
          both_ways (list_all (λ x. ranges_are_apart x (addresses r)) taken) other (all_from (λ x. ranges_are_apart x (addresses r)) taken (λ x in_taken.
          let of = are.each x in_taken in
          let t = of.0 in
          elim (cases_Bool (ranges_are_apart (addresses t) (addresses r))) [
            | inl apart ↦ subst (λ y. ranges_are_apart y (addresses r) ≡ true) of.4 apart
            | inr shares ↦
                let takes = and_from (are_beside q t r && told_part_precedes q s t r) (not (ranges_are_apart (addresses t) (addresses r))) (and_from (are_beside q t r) (told_part_precedes q s t r) of.3 (precedes_it t of.1 of.2 of.3)) (ap not shares) in
                absurd (both_ways (not (takes_from q s t r && test t)) (not_from_true (takes_from q s t r && test t) (and_from (takes_from q s t r) (test t) takes of.2))
                (all_gives (λ t. not (takes_from q s t r && test t)) (system_parts q s) all t of.1))
          ]))))
    ]

    module _ (next : FunctionPart → Bool) (here : next r ≡ stands_if q s test r) (others : (t : FunctionPart) → Contains s t.function → (t ≡ r) ⊎ (next t ≡ test t)) where
      kept : (t : FunctionPart) → Contains s t.function → t ≢ r → next t ≡ test t
      kept t listed differ = elim (others t listed) [ inl same ↦ absurd (differ same) | inr same ↦ same ]

      -- no part up to this one asks what this one answers
      same_asked : (k : ℕ) → k ≤ count → stands_if q s test (get_or rs k r) ≡ stands_if q s next (get_or rs k r)
      same_asked k le =
          by_asked q s test next (get_or rs k r) (agree_before q s nested test next (get_or rs k r)
          (λ c b listed off. sym (kept (window_part c b) listed
          (λ same. both_ways (is_part q s b (Window c)) off (subst (λ x. is_part q s x.function x.part ≡ true) (sym same) (part_of q s r r_listed).is))))
          (λ t listed first. sym (kept t (part_of q s t listed).listed
          (λ same. not_later k count r le within (subst (λ x. comes_first q s x (get_or rs k r) ≡ true) (same ∙ sym r_is) first)))))

      not_it : (k : ℕ) → k < count → get_or rs k r ≢ r
      not_it k less same =
          both_ways (comes_first q s r r) (not_itself q s r)
          (subst (λ x. comes_first q s x r ≡ true) same (subst (λ x. comes_first q s (get_or rs k r) x ≡ true) r_is (ordered.order k count r less within)))

      each_next : (k : ℕ) → k < count + 1 → k < length rs → next (get_or rs k r) ≡ stands_if q s next (get_or rs k r)
      each_next k less in_k = elim (cases_eq k count) [
        | inl same ↦
            subst (λ n. next (get_or rs n r) ≡ stands_if q s next (get_or rs n r)) (sym same)
            (ap next r_is ∙ here ∙ ap (stands_if q s test) (sym r_is) ∙ same_asked count (omega arith))
        | inr differ ↦
            let low : k < count = omega (arith, less, differ) in
            kept (get_or rs k r) (part_of q s (get_or rs k r) (part_at k r in_k)).listed (not_it k low)
            ∙ told.each k r low in_k
            ∙ same_asked k (omega (arith, low))
      ]

      among_next : (t : FunctionPart) → Contains s t.function → next t ≡ true → IsAmong rs (count + 1) t
      among_next t listed is = elim (others t listed) [
        | inl same ↦ record {
          at = count;
          first = omega arith;
          within = within;
          is = get_or_default rs count t r within ∙ r_is ∙ sym same;
        }
        | inr same ↦
            let among = told.only t listed (sym same ∙ is) in
            let low = among.first in
            record { at = among.at; first = omega (arith, low); within = among.within; is = among.is }
      ]

      pub told_more : AreFirstTold q s rs (count + 1) next
      told_more = record {
        each = λ k d less in_k. subst (λ x. next x ≡ stands_if q s next x) (get_or_default rs k r d in_k) (each_next k less in_k);
        only = among_next;
      }

  -- in the end they are those that stand
  pub told_all : (count : ℕ) (test : FunctionPart → Bool) → length rs ≤ count → AreFirstTold q s rs count test → (r : FunctionPart) → Contains (system_parts q s) r → test r ≡ stands q s r
  told_all count test end told r listed =
      stands_alone q s nested test record {
        each = λ t in_t. (
            let at = ordered.all t in_t in
            let within = at.1 in
            subst (λ x. test x ≡ stands_if q s test x) at.2 (told.each at.0 t (omega (arith, within, end)) within));
        only = λ t in_s is. (
            let among = told.only t in_s is in
            (part_of q s t (subst (Contains (system_parts q s)) among.is (part_at among.at t among.within))).is);
      } r listed
