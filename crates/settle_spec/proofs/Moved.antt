-- Of which items there are tells their turn, in whatever order they are listed.
use Rattle.std.proofs.Common.{◌≡◌, ℕ, ◌<◌, inl, inr, ◌⊎◌, List, length, get_or, set, arith, sym, ◌∙◌, ap, subst, refl}
use Rattle.std.specs.List.{AllPairs, swap}
use Rattle.std.specs.List.Sorted.{IsPermutation}
use Rattle.std.proofs.lemmas.Bool.{cases_eq, cases_order}
use Rattle.std.proofs.lemmas.List.{length-set, get_or-set_same, get_or-set_other}
use Rattle.std.proofs.lemmas.List.Edits.{swap_is}
use Rattle.std.proofs.lemmas.List.Sorted.{IsPermutation-keeps}
use Rattle.settle_spec.specs.Items.{PlacingItem, in_turn}
use Rattle.settle_spec.specs.PlacingLaws.{HasOtherRank}
use Rattle.settle_spec.proofs.InTurn.{turn_free}

module _ {X : Type 0} (R : X → X → Type 0) (back : (x y : X) → R x y → R y x) where
  -- whatever holds both ways of each two elements holds of two places
  between : (xs : List X) (d : X) → AllPairs R xs → (m n : ℕ) → m < length xs → n < length xs → (m ≡ n → ⊥) → R (get_or xs m d) (get_or xs n d)
  between xs d pairs m n in_m in_n differ = elim (cases_order m n) [
    | inl same ↦ absurd (differ same)
    | inr (inl less) ↦ pairs m n d less in_n
    | inr (inr more) ↦ back (get_or xs n d) (get_or xs m d) (pairs n m d more in_m)
  ]

  module _ (xs : List X) (i j : ℕ) (in_i : i < length xs) (in_j : j < length xs) (d : X) where
    length_swap : length (swap xs i j) ≡ length xs
    length_swap = ap length (sym (swap_is xs i j d in_i in_j)) ∙ length-set (set xs i (get_or xs j d)) j (get_or xs i d) ∙ length-set xs i (get_or xs j d)

    at_j : (k : ℕ) → k ≡ j → get_or (swap xs i j) k d ≡ get_or xs i d
    at_j k here =
        let long = length-set xs i (get_or xs j d) in
        ap (λ ys. get_or ys k d) (sym (swap_is xs i j d in_i in_j))
        ∙ ap (λ n. get_or (set (set xs i (get_or xs j d)) j (get_or xs i d)) n d) here
        ∙ get_or-set_same (set xs i (get_or xs j d)) j (get_or xs i d) d (omega (arith, long, in_j))

    at_i : (k : ℕ) → k ≡ i → (k ≡ j → ⊥) → get_or (swap xs i j) k d ≡ get_or xs j d
    at_i k here other =
        ap (λ ys. get_or ys k d) (sym (swap_is xs i j d in_i in_j))
        ∙ get_or-set_other (set xs i (get_or xs j d)) j k (get_or xs i d) d other
        ∙ ap (λ n. get_or (set xs i (get_or xs j d)) n d) here
        ∙ get_or-set_same xs i (get_or xs j d) d in_i

    elsewhere : (k : ℕ) → (k ≡ i → ⊥) → (k ≡ j → ⊥) → get_or (swap xs i j) k d ≡ get_or xs k d
    elsewhere k not_i not_j =
        ap (λ ys. get_or ys k d) (sym (swap_is xs i j d in_i in_j))
        ∙ get_or-set_other (set xs i (get_or xs j d)) j k (get_or xs i d) d not_j
        ∙ get_or-set_other xs i k (get_or xs j d) d not_i

    -- where an element of the exchanged list stood, other places having been others
    record WasAt (k : ℕ) : Type 0 where
      at : ℕ
      within : at < length xs
      is : get_or (swap xs i j) k d ≡ get_or xs at d
      case : ((k ≡ j) × (at ≡ i)) ⊎ (((k ≡ i) × (at ≡ j)) ⊎ ((k ≡ i → ⊥) × (k ≡ j → ⊥) × (at ≡ k)))

    was_at : (k : ℕ) → k < length xs → WasAt k
    was_at k inside = elim (cases_eq k j) [
      | inl here ↦ record { at = i; within = in_i; is = at_j k here; case = inl (here, refl) }
      | inr other ↦ elim (cases_eq k i) [
        | inl here ↦ record { at = j; within = in_j; is = at_i k here other; case = inr (inl (here, refl)) }
        | inr out ↦ record { at = k; within = inside; is = elsewhere k out other; case = inr (inr (out, other, refl)) }
      ]
    ]

    apart : (m n : ℕ) (p : WasAt m) (q : WasAt n) → (m ≡ n → ⊥) → p.at ≡ q.at → ⊥
    apart m n p q differ same = elim p.case [
      | inl (mj, pi) ↦ elim q.case [
        | inl (nj, qi) ↦ differ (mj ∙ sym nj)
        | inr (inl (ni, qj)) ↦ differ (mj ∙ sym qj ∙ sym same ∙ pi ∙ sym ni)
        | inr (inr (out, other, qn)) ↦ out (sym qn ∙ sym same ∙ pi)
      ]
      | inr (inl (mi, pj)) ↦ elim q.case [
        | inl (nj, qi) ↦ differ (mi ∙ sym qi ∙ sym same ∙ pj ∙ sym nj)
        | inr (inl (ni, qj)) ↦ differ (mi ∙ sym ni)
        | inr (inr (out, other, qn)) ↦ other (sym qn ∙ sym same ∙ pj)
      ]
      | inr (inr (out, other, pm)) ↦ elim q.case [
        | inl (nj, qi) ↦ out (sym pm ∙ same ∙ qi)
        | inr (inl (ni, qj)) ↦ other (sym pm ∙ same ∙ qj)
        | inr (inr (far, further, qn)) ↦ differ (sym pm ∙ same ∙ qn)
      ]
    ]

  pairs_swap : (xs : List X) (i j : ℕ) → i < length xs → j < length xs → AllPairs R xs → AllPairs R (swap xs i j)
  pairs_swap xs i j in_i in_j pairs m n d up inside =
      let long = length_swap xs i j in_i in_j d in
      let p = was_at xs i j in_i in_j d m (omega (arith, long, up, inside)) in
      let q = was_at xs i j in_i in_j d n (omega (arith, long, inside)) in
      subst (λ y. R (get_or (swap xs i j) m d) y) (sym q.is) (subst (λ x. R x (get_or xs q.at d)) (sym p.is)
      (between xs d pairs p.at q.at p.within q.within (apart xs i j in_i in_j d m n p q (λ e. let no : ⊥ = omega (arith, e, up) in no))))

  pub pairs_moved : (xs ys : List X) → IsPermutation xs ys → AllPairs R xs → AllPairs R ys
  pairs_moved xs ys moved pairs = IsPermutation-keeps xs (AllPairs R) pairs (λ l i j p q h. pairs_swap l i j p q h) ys moved

-- items that differ have one turn
pub turn_moved : (items others : List PlacingItem) → AllPairs HasOtherRank items → IsPermutation items others → in_turn items ≡ in_turn others
turn_moved items others apart moved =
    turn_free items others apart (pairs_moved HasOtherRank (λ i j differ same. differ (sym same)) items others moved apart) moved
