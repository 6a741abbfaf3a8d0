-- Items in turn: the same items, each before all that follow it.
use Rattle.std.proofs.Common.{◌≡◌, ◌&&◌, ◌||◌, ℕ, inl, inr, List, [], ◌∷◌, cond, ap, sym, subst, ◌∙◌, refl, true, false, Bool, arith}
use Rattle.std.specs.Bool.{nat_lt, ◌==◌}
use Rattle.std.specs.List.{Contains, AllPairs}
use Rattle.std.specs.List.Sorted.{IsPermutation}
use Rattle.std.proofs.lemmas.Bool.{cases_Bool, both_ways}
use Rattle.std.proofs.lemmas.Bool.Decides.{nat_tests}
use Rattle.std.proofs.lemmas.List.Sorted.{IsPermutation-refl, IsPermutation-sym, IsPermutation-cons, IsPermutation-trans, IsPermutation-middle, Contains-permutation}
use Rattle.pci_spec.proofs.Members.{in_nil, in_head, in_tail, in_cons_cases, pairs_nil, pairs_cons, pairs_head, pairs_tail}
use Rattle.settle_spec.specs.Stands.{rank}
use Rattle.settle_spec.specs.Items.{PlacingItem, item_precedes, put_in, in_turn}
use Rattle.settle_spec.specs.PlacingLaws.{ComesBefore, HasLowerRank, HasOtherRank}

-- ---- the order

abbrev earlier : ℕ → ℕ → ℕ → ℕ → ℕ → ℕ → Bool
earlier a b s t q r = nat_lt b a || (a == b && (nat_lt t s || (s == t && nat_lt q r)))

earlier_itself : (a s q : ℕ) → earlier a a s s q q ≡ false
earlier_itself a s q = grind (arith, nat_tests)

earlier_else : (a b s t q r : ℕ) → (q ≡ r → ⊥) → earlier a b s t q r ≡ false → earlier b a t s r q ≡ true
earlier_else a b s t q r differ other = grind (arith, nat_tests)

earlier_trans : (a b c s t u q r v : ℕ) → earlier a b s t q r ≡ true → earlier b c t u r v ≡ true → earlier a c s u q v ≡ true
earlier_trans a b c s t u q r v h k = grind (arith, nat_tests)

before_itself : (i : PlacingItem) → item_precedes i i ≡ false
before_itself i = earlier_itself i.extent.alignment i.extent.size (rank i.region)

before_else : (i j : PlacingItem) → HasOtherRank i j → item_precedes i j ≡ false → item_precedes j i ≡ true
before_else i j less other =
    earlier_else i.extent.alignment j.extent.alignment i.extent.size j.extent.size (rank i.region) (rank j.region) less other

before_trans : (i j k : PlacingItem) → item_precedes i j ≡ true → item_precedes j k ≡ true → item_precedes i k ≡ true
before_trans i j k h g =
    earlier_trans i.extent.alignment j.extent.alignment k.extent.alignment i.extent.size j.extent.size k.extent.size (rank i.region) (rank j.region) (rank k.region) h g

-- ---- the same items

put_in_same : (i : PlacingItem) (items : List PlacingItem) → IsPermutation (i ∷ items) (put_in i items)
put_in_same i [] = IsPermutation-refl (i ∷ [])
put_in_same i (j ∷ items) = elim (cases_Bool (item_precedes i j)) [
  | inl first ↦ subst (IsPermutation (i ∷ (j ∷ items))) (sym (ap (λ b. cond b (i ∷ (j ∷ items)) (j ∷ put_in i items)) first)) (IsPermutation-refl (i ∷ (j ∷ items)))
  | inr later ↦ subst (IsPermutation (i ∷ (j ∷ items))) (sym (ap (λ b. cond b (i ∷ (j ∷ items)) (j ∷ put_in i items)) later))
      (IsPermutation-trans (i ∷ (j ∷ items)) (j ∷ (i ∷ items)) (j ∷ put_in i items)
      (IsPermutation-sym (j ∷ (i ∷ items)) (i ∷ (j ∷ items)) (IsPermutation-middle (j ∷ []) i items))
      (IsPermutation-cons j (i ∷ items) (put_in i items) (put_in_same i items)))
]

pub turn_same : (items : List PlacingItem) → IsPermutation items (in_turn items)
turn_same [] = IsPermutation-refl []
turn_same (i ∷ items) =
    IsPermutation-trans (i ∷ items) (i ∷ in_turn items) (put_in i (in_turn items))
    (IsPermutation-cons i items (in_turn items) (turn_same items)) (put_in_same i (in_turn items))

-- ---- in that order

put_in_order : (i : PlacingItem) (items : List PlacingItem) → ((j : PlacingItem) → Contains items j → HasOtherRank i j) → AllPairs ComesBefore items → AllPairs ComesBefore (put_in i items)
put_in_order i [] lower pairs = pairs_cons ComesBefore i [] (λ j listed. absurd (in_nil j listed)) (pairs_nil ComesBefore)
put_in_order i (j ∷ items) lower pairs = elim (cases_Bool (item_precedes i j)) [
  | inl first ↦ subst (AllPairs ComesBefore) (sym (ap (λ b. cond b (i ∷ (j ∷ items)) (j ∷ put_in i items)) first))
      (pairs_cons ComesBefore i (j ∷ items)
      (λ k listed. elim (in_cons_cases j items k listed) [
        | inl here ↦ subst (ComesBefore i) here first
        | inr later ↦ before_trans i j k first (pairs_head ComesBefore j items k pairs later)
      ]) pairs)
  | inr later ↦ subst (AllPairs ComesBefore) (sym (ap (λ b. cond b (i ∷ (j ∷ items)) (j ∷ put_in i items)) later))
      (pairs_cons ComesBefore j (put_in i items)
      (λ k listed. elim (in_cons_cases i items k (Contains-permutation (put_in i items) (i ∷ items) k (IsPermutation-sym (i ∷ items) (put_in i items) (put_in_same i items)) listed)) [
        | inl here ↦ subst (ComesBefore j) here (before_else i j (lower j (in_head j items)) later)
        | inr further ↦ pairs_head ComesBefore j items k pairs further
      ])
      (put_in_order i items (λ k listed. lower k (in_tail j items k listed)) (pairs_tail ComesBefore j items pairs)))
]

pub turn_order : (items : List PlacingItem) → AllPairs HasOtherRank items → AllPairs ComesBefore (in_turn items)
turn_order [] rise = pairs_nil ComesBefore
turn_order (i ∷ items) rise =
    put_in_order i (in_turn items)
    (λ j listed. pairs_head HasOtherRank i items j rise (Contains-permutation (in_turn items) items j (IsPermutation-sym items (in_turn items) (turn_same items)) listed))
    (turn_order items (pairs_tail HasOtherRank i items rise))

-- ---- and no other list is

no_both : (i j : PlacingItem) → ComesBefore i j → ComesBefore j i → ⊥
no_both i j there back = both_ways (item_precedes i i) (before_itself i) (before_trans i j i there back)

no_itself : (i : PlacingItem) → ComesBefore i i → ⊥
no_itself i is = both_ways (item_precedes i i) (before_itself i) is

same_head : (i j : PlacingItem) (xs ys : List PlacingItem) → AllPairs ComesBefore (i ∷ xs) → AllPairs ComesBefore (j ∷ ys) → Contains (j ∷ ys) i → Contains (i ∷ xs) j → i ≡ j
same_head i j xs ys up other i_in j_in = elim (in_cons_cases j ys i i_in) [
  | inl here ↦ sym here
  | inr later ↦ elim (in_cons_cases i xs j j_in) [
    | inl here ↦ here
    | inr further ↦ absurd (no_both i j (pairs_head ComesBefore i xs j up further) (pairs_head ComesBefore j ys i other later))
  ]
]

rest_in : (i : PlacingItem) (xs ys : List PlacingItem) → AllPairs ComesBefore (i ∷ xs) → ((k : PlacingItem) → Contains (i ∷ xs) k → Contains (i ∷ ys) k) → (k : PlacingItem) → Contains xs k → Contains ys k
rest_in i xs ys up to k listed = elim (in_cons_cases i ys k (to k (in_tail i xs k listed))) [
  | inl here ↦ absurd (no_itself i (pairs_head ComesBefore i xs i up (subst (Contains xs) (sym here) listed)))
  | inr later ↦ later
]

one_order : (xs ys : List PlacingItem) → AllPairs ComesBefore xs → AllPairs ComesBefore ys → ((k : PlacingItem) → Contains xs k → Contains ys k) → ((k : PlacingItem) → Contains ys k → Contains xs k) → xs ≡ ys
one_order [] [] up other to back = refl
one_order [] (j ∷ ys) up other to back = absurd (in_nil j (back j (in_head j ys)))
one_order (i ∷ xs) [] up other to back = absurd (in_nil i (to i (in_head i xs)))
one_order (i ∷ xs) (j ∷ ys) up other to back =
    let same : j ≡ i = sym (same_head i j xs ys up other (to i (in_head i xs)) (back j (in_head j ys))) in
    ap (λ k. k ∷ xs) (sym same)
    ∙ ap (λ zs. j ∷ zs) (one_order xs ys (pairs_tail ComesBefore i xs up) (pairs_tail ComesBefore j ys other)
    (rest_in i xs ys up (λ k listed. subst (λ z. Contains (z ∷ ys) k) same (to k listed)))
    (rest_in i ys xs (subst (λ z. AllPairs ComesBefore (z ∷ ys)) same other) (λ k listed. back k (subst (λ z. Contains (z ∷ ys) k) (sym same) listed))))

pub turn_only : (items turn : List PlacingItem) → AllPairs HasOtherRank items → IsPermutation items turn → AllPairs ComesBefore turn → in_turn items ≡ turn
turn_only items turn rise moved order =
    let own = turn_same items in
    one_order (in_turn items) turn (turn_order items rise) order
    (λ k listed. Contains-permutation items turn k moved (Contains-permutation (in_turn items) items k (IsPermutation-sym items (in_turn items) own) listed))
    (λ k listed. Contains-permutation items (in_turn items) k own (Contains-permutation turn items k (IsPermutation-sym items turn moved) listed))

pub turn_free : (items others : List PlacingItem) → AllPairs HasOtherRank items → AllPairs HasOtherRank others → IsPermutation items others → in_turn items ≡ in_turn others
turn_free items others apart other_apart moved =
    turn_only items (in_turn others) apart (IsPermutation-trans items others (in_turn others) moved (turn_same others)) (turn_order others other_apart)

-- ranks that rise differ
pub ranks_differ : (items : List PlacingItem) → AllPairs HasLowerRank items → AllPairs HasOtherRank items
ranks_differ items rise i j d up inside = λ same. let less = rise i j d up inside in let no : ⊥ = omega (arith, same, less) in no
