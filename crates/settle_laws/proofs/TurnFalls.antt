-- Items in turn have falling alignments, whatever their ranks.
use Rattle.std.proofs.Common.{◌≡◌, ◌||◌, ◌&&◌, ◌≤◌, ◌⊎◌, inl, inr, List, [], ◌∷◌, cond, true, false, arith, sym, subst}
use Rattle.std.specs.Bool.{nat_lt, ◌==◌}
use Rattle.std.specs.List.{Contains, AllPairs}
use Rattle.std.proofs.lemmas.Bool.{cases_Bool, cases_lt, or_cases, or_left, and_parts, both_ways, lt-ltb, ltb-true, eqb-true}
use Rattle.pci_spec.proofs.Members.{in_nil, in_head, in_tail, in_cons_cases, pairs_head, pairs_tail, pairs_nil, pairs_cons}
use Rattle.settle_spec.specs.Stands.{rank}
use Rattle.settle_spec.specs.Items.{PlacingItem, item_precedes, put_in, in_turn}
use Rattle.settle_laws.proofs.OneByOne.{IsNoMoreAligned}

abbrev others : PlacingItem → PlacingItem → List PlacingItem → List PlacingItem
others i j items = j ∷ put_in i items

before_falls : (i j : PlacingItem) → item_precedes i j ≡ true → j.extent.alignment ≤ i.extent.alignment
before_falls i j before = elim (or_cases (nat_lt j.extent.alignment i.extent.alignment) (i.extent.alignment == j.extent.alignment && (nat_lt j.extent.size i.extent.size || (i.extent.size == j.extent.size && nat_lt (rank i.region) (rank j.region)))) before) [
  | inl less ↦ (let l = ltb-true j.extent.alignment i.extent.alignment less in omega (arith, l))
  | inr same ↦ (let e = eqb-true i.extent.alignment j.extent.alignment (and_parts (i.extent.alignment == j.extent.alignment) _ same).0 in omega (arith, e))
]

behind_falls : (i j : PlacingItem) → item_precedes i j ≡ false → i.extent.alignment ≤ j.extent.alignment
behind_falls i j behind = elim (cases_lt j.extent.alignment i.extent.alignment) [
  | inl less ↦ absurd (both_ways (item_precedes i j) behind (or_left (nat_lt j.extent.alignment i.extent.alignment) _ (lt-ltb j.extent.alignment i.extent.alignment less)))
  | inr fine ↦ fine
]

put_cases : (i : PlacingItem) (items : List PlacingItem) (k : PlacingItem) → Contains (put_in i items) k → (i ≡ k) ⊎ Contains items k
put_cases i [] k has = in_cons_cases i [] k has
put_cases i (j ∷ items) k has = elim (cases_Bool (item_precedes i j)) [
  | inl first ↦ in_cons_cases i (j ∷ items) k (subst (λ b. Contains (cond b (i ∷ (j ∷ items)) (others i j items)) k) first has)
  | inr later ↦ elim (in_cons_cases j (put_in i items) k (subst (λ b. Contains (cond b (i ∷ (j ∷ items)) (others i j items)) k) later has)) [
    | inl here ↦ inr (subst (Contains (j ∷ items)) here (in_head j items))
    | inr more ↦ elim (put_cases i items k more) [ inl is ↦ inl is | inr was ↦ inr (in_tail j items k was) ]
  ]
]

put_falls : (i : PlacingItem) (items : List PlacingItem) → AllPairs IsNoMoreAligned items → AllPairs IsNoMoreAligned (put_in i items)
put_falls i [] falls = pairs_cons IsNoMoreAligned i [] (λ k listed. absurd (in_nil k listed)) falls
put_falls i (j ∷ items) falls = elim (cases_Bool (item_precedes i j)) [
  | inl first ↦
      let less = before_falls i j first in
      subst (λ b. AllPairs IsNoMoreAligned (cond b (i ∷ (j ∷ items)) (others i j items))) (sym first)
      (pairs_cons IsNoMoreAligned i (j ∷ items) (λ k listed. elim (in_cons_cases j items k listed) [
        | inl here ↦ subst (IsNoMoreAligned i) here less
        | inr later ↦ (let more = pairs_head IsNoMoreAligned j items k falls later in omega (arith, less, more))
      ]) falls)
  | inr later ↦
      let less = behind_falls i j later in
      subst (λ b. AllPairs IsNoMoreAligned (cond b (i ∷ (j ∷ items)) (others i j items))) (sym later)
      (pairs_cons IsNoMoreAligned j (put_in i items) (λ k listed. elim (put_cases i items k listed) [
        | inl here ↦ subst (IsNoMoreAligned j) here less
        | inr was ↦ pairs_head IsNoMoreAligned j items k falls was
      ]) (put_falls i items (pairs_tail IsNoMoreAligned j items falls)))
]

pub turn_falls : (items : List PlacingItem) → AllPairs IsNoMoreAligned (in_turn items)
turn_falls [] = pairs_nil IsNoMoreAligned
turn_falls (i ∷ items) = put_falls i (in_turn items) (turn_falls items)
