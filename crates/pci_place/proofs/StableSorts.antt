-- What a stable sort by a key makes of an order.
use Rattle.std.proofs.Common.{◌≡◌, ℕ, zero, suc, ◌<◌, ◌≤◌, inl, inr, ◌⊎◌, List, [], ◌∷◌, Bool, false, true, cond, not, ◌&&◌, arith, sym, ◌∙◌, ap, subst, length, get_or, filter}
use Rattle.std.specs.declared.cmp.Ordering.TheVariants.{Less, Equal, Greater}
use Rattle.std.specs.Cmp.{nat_cmp_is, nat_cmp_total}
use Rattle.std.specs.Ordering.{is_lt, nat_cmp}
use Rattle.std.specs.List.{AllPairs}
use Rattle.std.specs.List.Sorted.{ties, IsStableBy, IsSortedBy}
use Rattle.std.proofs.lemmas.Bool.{cases_Bool, cases_eq, cases_lt, both_ways}
use Rattle.std.proofs.lemmas.List.Elements.{Contains-get_or}
use Rattle.std.proofs.lemmas.List.Sorted.{sorted_far, ranks_by, IsStrictWeakOrder-flip}
use Rattle.pci_spec.proofs.Members.{in_filter_from, pairs_head, pairs_tail, pairs_filter}

-- an order of what passes a test is one of each two that pass it
pairs_unfilter : {X : Type 0} (R : X → X → Type 0) (p : X → Bool) (xs : List X) (i j : ℕ) (d : X) → AllPairs R (filter p xs) → i < j → j < length xs
    → p (get_or xs i d) ≡ true → p (get_or xs j d) ≡ true → R (get_or xs i d) (get_or xs j d)
pairs_unfilter R p [] i j d pairs up inside at_i at_j = absurd (let impossible : ⊥ = omega (arith, inside) in impossible)
pairs_unfilter R p (x ∷ xs) i zero d pairs up inside at_i at_j = absurd (let impossible : ⊥ = omega (arith, up) in impossible)
pairs_unfilter R p (x ∷ xs) zero (suc j) d pairs up inside at_i at_j =
    pairs_head R x (filter p xs) (get_or xs j d) (subst (AllPairs R) (ap (λ b. cond b (x ∷ filter p xs) (filter p xs)) at_i) pairs)
    (in_filter_from p xs (get_or xs j d) (Contains-get_or xs j d (omega (arith, inside))) at_j)
pairs_unfilter R p (x ∷ xs) (suc i) (suc j) d pairs up inside at_i at_j =
    pairs_unfilter R p xs i j d
    (elim (cases_Bool (p x)) [
      | inl kept ↦ pairs_tail R x (filter p xs) (subst (AllPairs R) (ap (λ b. cond b (x ∷ filter p xs) (filter p xs)) kept) pairs)
      | inr left ↦ subst (AllPairs R) (ap (λ b. cond b (x ∷ filter p xs) (filter p xs)) left) pairs
    ])
    (omega (arith, up)) (omega (arith, inside)) at_i at_j

-- two elements that tie stand in the order that they had
stable_pairs : {X : Type 0} (R : X → X → Type 0) (lt : X → X → Bool) (xs ys : List X) (i j : ℕ) (d : X) → AllPairs R xs → IsStableBy lt xs ys → i < j → j < length ys
    → lt (get_or ys i d) (get_or ys i d) ≡ false → lt (get_or ys i d) (get_or ys j d) ≡ false → lt (get_or ys j d) (get_or ys i d) ≡ false → R (get_or ys i d) (get_or ys j d)
stable_pairs R lt xs ys i j d pairs stable up inside own there back =
    let x = get_or ys i d in
    pairs_unfilter R (ties lt x) ys i j d
    (subst (AllPairs R) (sym (stable x)) (pairs_filter R (ties lt x) xs pairs)) up inside
    (ap (λ b. not b && not b) own) (ap (λ b. not b && not (lt (get_or ys j d) x)) there ∙ ap not back)

not_below : (m n : ℕ) → n ≤ m → is_lt (nat_cmp m n) ≡ false
not_below m n le = elim (cases_eq m n) [
  | inl same ↦ sym (ap is_lt (nat_cmp_is m n Equal same))
  | inr other ↦ sym (ap is_lt (nat_cmp_is m n Greater (omega (arith, le, other))))
]

from_not_below : (m n : ℕ) → is_lt (nat_cmp m n) ≡ false → n ≤ m
from_not_below m n other = elim (cases_lt m n) [
  | inl less ↦ absurd (both_ways (is_lt (nat_cmp m n)) other (sym (ap is_lt (nat_cmp_is m n Less less))))
  | inr fine ↦ fine
]

module _ {X : Type 0} (key : X → ℕ) (R : X → X → Type 0) (xs ys : List X) (pairs : AllPairs R xs) where
  abbrev rises : X → X → Bool
  rises x y = is_lt (nat_cmp (key x) (key y))

  abbrev falls : X → X → Bool
  falls x y = is_lt (nat_cmp (key y) (key x))

  -- lower numbers come first, and those of one number stand in the order that they had
  pub rises_by_sort : IsSortedBy rises ys → IsStableBy rises xs ys → AllPairs (λ x y. (key x < key y) ⊎ ((key x ≡ key y) × R x y)) ys
  rises_by_sort sorted stable i j d up inside =
      let p = get_or ys i d in
      let q = get_or ys j d in
      let rise : key p ≤ key q = from_not_below (key q) (key p) (sorted_far rises (ranks_by nat_cmp_total key) ys sorted i j d (omega (arith, up)) inside) in
      elim (cases_eq (key p) (key q)) [
        | inl same ↦ inr (same, stable_pairs R rises xs ys i j d pairs stable up inside (not_below (key p) (key p) (omega arith)) (not_below (key p) (key q) (omega (arith, same))) (not_below (key q) (key p) (omega (arith, same))))
        | inr other ↦ inl (omega (arith, rise, other))
      ]

  -- greater ones do
  pub falls_by_sort : IsSortedBy falls ys → IsStableBy falls xs ys → AllPairs (λ x y. (key y < key x) ⊎ ((key x ≡ key y) × R x y)) ys
  falls_by_sort sorted stable i j d up inside =
      let p = get_or ys i d in
      let q = get_or ys j d in
      let fall : key q ≤ key p = from_not_below (key p) (key q) (sorted_far falls (IsStrictWeakOrder-flip rises (ranks_by nat_cmp_total key)) ys sorted i j d (omega (arith, up)) inside) in
      elim (cases_eq (key p) (key q)) [
        | inl same ↦ inr (same, stable_pairs R falls xs ys i j d pairs stable up inside (not_below (key p) (key p) (omega arith)) (not_below (key q) (key p) (omega (arith, same))) (not_below (key p) (key q) (omega (arith, same))))
        | inr other ↦ inl (omega (arith, fall, other))
      ]
