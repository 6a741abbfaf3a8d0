-- An insertion sort: the items of a bus can be put in order.
use Rattle.std.proofs.Common.{◌≡◌, inl, inr, List, [], ◌∷◌, refl, true, cond, arith, sym, subst}
use Rattle.std.specs.Bool.{IsTrue, if◌then◌else◌}
use Rattle.std.specs.List.{Contains, AllPairs}
use Rattle.std.specs.List.Sorted.{IsPermutation}
use Rattle.std.proofs.lemmas.Bool.{cases_Bool}
use Rattle.std.proofs.lemmas.List.Sorted.{IsPermutation-refl, IsPermutation-sym, IsPermutation-cons, IsPermutation-trans, IsPermutation-swap, Contains-permutation}
use Rattle.plan_spec.specs.Place.{Item, comes_before}
use Rattle.plan_spec.specs.Planning.Sorted.{StandsBefore}
use Rattle.pci_spec.proofs.Members.{in_nil, in_head, in_tail, in_cons_cases, pairs_nil, pairs_cons, pairs_head, pairs_tail}
use Rattle.plan_spec.proofs.Planning.Order.{before_else, before_trans}

abbrev pub insert : Item → List Item → List Item
insert i [] = i ∷ []
insert i (j ∷ items) = if comes_before i j then i ∷ (j ∷ items) else j ∷ insert i items

abbrev pub ordered : List Item → List Item
ordered [] = []
ordered (i ∷ items) = insert i (ordered items)

abbrev pub ComesBefore : Item → Item → Type 0
ComesBefore i j = IsTrue (comes_before i j)

swapped : (i j : Item) (items : List Item) → IsPermutation (i ∷ (j ∷ items)) (j ∷ (i ∷ items))
swapped i j items = IsPermutation-swap (i ∷ (j ∷ items)) (j ∷ (i ∷ items)) 0 1 (omega arith) (omega arith) refl

insert_permutes : (i : Item) (items : List Item) → IsPermutation (i ∷ items) (insert i items)
insert_permutes i [] = IsPermutation-refl (i ∷ [])
insert_permutes i (j ∷ items) = elim (cases_Bool (comes_before i j)) [
  | inl first ↦ subst (λ b. IsPermutation (i ∷ (j ∷ items)) (cond b (i ∷ (j ∷ items)) (j ∷ insert i items))) (sym first) (IsPermutation-refl (i ∷ (j ∷ items)))
  | inr later ↦ subst (λ b. IsPermutation (i ∷ (j ∷ items)) (cond b (i ∷ (j ∷ items)) (j ∷ insert i items))) (sym later)
      (IsPermutation-trans (i ∷ (j ∷ items)) (j ∷ (i ∷ items)) (j ∷ insert i items) (swapped i j items)
      (IsPermutation-cons j (i ∷ items) (insert i items) (insert_permutes i items)))
]

pub ordered_permutes : (items : List Item) → IsPermutation items (ordered items)
ordered_permutes [] = IsPermutation-refl []
ordered_permutes (i ∷ items) =
    IsPermutation-trans (i ∷ items) (i ∷ ordered items) (insert i (ordered items)) (IsPermutation-cons i items (ordered items) (ordered_permutes items)) (insert_permutes i (ordered items))

insert_ordered : (i : Item) (items : List Item) → AllPairs ComesBefore items → ((j : Item) → Contains items j → StandsBefore i j) → AllPairs ComesBefore (insert i items)
insert_ordered i [] pairs first = pairs_cons ComesBefore i [] (λ j listed. absurd (in_nil j listed)) (pairs_nil ComesBefore)
insert_ordered i (j ∷ items) pairs first = elim (cases_Bool (comes_before i j)) [
  | inl before ↦ subst (λ b. AllPairs ComesBefore (cond b (i ∷ (j ∷ items)) (j ∷ insert i items))) (sym before)
      (pairs_cons ComesBefore i (j ∷ items)
      (λ k listed. elim (in_cons_cases j items k listed) [
        | inl here ↦ subst (λ x. comes_before i x ≡ true) here before
        | inr later ↦ before_trans i j k before (pairs_head ComesBefore j items k pairs later)
      ])
      pairs)
  | inr behind ↦ subst (λ b. AllPairs ComesBefore (cond b (i ∷ (j ∷ items)) (j ∷ insert i items))) (sym behind)
      (pairs_cons ComesBefore j (insert i items)
      (λ k listed. elim (in_cons_cases i items k (Contains-permutation (insert i items) (i ∷ items) k (IsPermutation-sym (i ∷ items) (insert i items) (insert_permutes i items)) listed)) [
        | inl here ↦ subst (λ x. comes_before j x ≡ true) here (before_else i j (first j (in_head j items)) behind)
        | inr later ↦ pairs_head ComesBefore j items k pairs later
      ])
      (insert_ordered i items (pairs_tail ComesBefore j items pairs) (λ k listed. first k (in_tail j items k listed))))
]

-- items that come by slot and register are put in order
pub ordered_pairs : (items : List Item) → AllPairs StandsBefore items → AllPairs ComesBefore (ordered items)
ordered_pairs [] rise = pairs_nil ComesBefore
ordered_pairs (i ∷ items) rise =
    insert_ordered i (ordered items) (ordered_pairs items (pairs_tail StandsBefore i items rise))
    (λ j listed. pairs_head StandsBefore i items j rise (Contains-permutation (ordered items) items j (IsPermutation-sym items (ordered items) (ordered_permutes items)) listed))
