-- Lists that are made of other things one by one, and lists that are put in order.
use Rattle.std.proofs.Common.{◌≡◌, ℕ, ◌+◌, ◌<◌, inl, inr, List, [], ◌∷◌, ◌++◌, length, get_or, map, take, sym, ◌∙◌, ap, subst, arith, eqb, refl}
use Rattle.std.specs.List.{AllPairs, Contains, IsDistinct}
use Rattle.std.specs.List.Sorted.{IsPermutation, IsNonDecreasing, IsNonDecreasingBy}
use Rattle.std.proofs.lemmas.Bool.{ne_eqb}
use Rattle.std.proofs.lemmas.Bool.Decides.{nat_tests}
use Rattle.std.proofs.lemmas.List.{get_or-map, length-map, length_push, get_or_append_left, get_or_push, take_more}
use Rattle.std.proofs.lemmas.List.Elements.{Contains-get_or, Contains-push, Contains-push_cases, Contains-append_left}
use Rattle.std.proofs.lemmas.List.Quantifiers.{all_pairs_push}
use Rattle.std.proofs.lemmas.List.Kept.{AllPairs-from_increasing}
use Rattle.std.proofs.lemmas.List.Sorted.{IsPermutation-map}
use Rattle.std.proofs.lemmas.Map.Keys.{IsDistinct-from_apart, IsDistinct-IsPermutation, IsStrictlyIncreasing-from_distinct}
use Rattle.pci_spec.proofs.Members.{in_nil, pairs_nil}
use Rattle.pci_claims.specs.Made.{AreOneEach}

-- ---- pairs of a list with one more

pairs_before : {X : Type 0} (R : X → X → Type 0) (xs : List X) (x : X) → AllPairs R (xs ++ x ∷ []) → AllPairs R xs
pairs_before R xs x pairs i j d less within =
    let size = length_push xs x in
    let here = pairs i j d less (omega (arith, within, size)) in
    subst (λ y. R y (get_or xs j d)) (get_or_append_left xs (x ∷ []) d i (omega (arith, less, within)))
    (subst (λ y. R (get_or (xs ++ x ∷ []) i d) y) (get_or_append_left xs (x ∷ []) d j within) here)

pairs_last : {X : Type 0} (R : X → X → Type 0) (xs : List X) (x y : X) → AllPairs R (xs ++ x ∷ []) → Contains xs y → R y x
pairs_last R xs x y pairs (k, within, at) =
    let size = length_push xs x in
    let here = pairs k (length xs) y within (omega (arith, size)) in
    subst (λ z. R z x) (get_or_append_left xs (x ∷ []) y k within ∙ at)
    (subst (λ z. R (get_or (xs ++ x ∷ []) k y) z) (get_or_push xs x y (length xs) refl) here)

-- ---- one more thing

module _ {X Y : Type 0} (IsOf : X → Y → Type 0) (HasOne : X → Type 0) (number : X → ℕ) (place : Y → ℕ) (numbered : (x : X) (y : Y) → IsOf x y → place y ≡ number x) where
  pub made_none : AreOneEach IsOf HasOne number place [] []
  made_none = record {
    each = λ c has. absurd (in_nil c has);
    complete = λ x has. absurd (in_nil x has);
    rising = λ up. pairs_nil (λ c d. place c < place d);
  }

  module _ (xs : List X) (i : ℕ) (x : X) (claims : List Y) (within : i < length xs) (at : x ≡ get_or xs i x) (made : AreOneEach IsOf HasOne number place (take i xs) claims) where
    split : take (i + 1) xs ≡ take i xs ++ x ∷ []
    split = take_more xs i x within ∙ ap (λ y. take i xs ++ y ∷ []) (sym at)

    before : (y : X) → Contains (take i xs) y → Contains (take (i + 1) xs) y
    before y has = subst (λ l. Contains l y) (sym split) (Contains-append_left (take i xs) (x ∷ []) y has)

    pub made_more : (c : Y) → IsOf x c → AreOneEach IsOf HasOne number place (take (i + 1) xs) (claims ++ c ∷ [])
    made_more c is = record {
      each = λ d has. elim (Contains-push_cases claims c d has) [
        | inl old ↦ (let (y, there, of) = made.each d old in (y, before y there, of))
        | inr same ↦ (x, subst (λ l. Contains l x) (sym split) (Contains-push (take i xs) x), subst (IsOf x) same is)
      ];
      complete = λ y has one. elim (Contains-push_cases (take i xs) x y (subst (λ l. Contains l y) split has)) [
        | inl old ↦ (let (d, there, of) = made.complete y old one in (d, Contains-append_left claims (c ∷ []) d there, of))
        | inr same ↦ (c, Contains-push claims c, subst (λ z. IsOf z c) same is)
      ];
      rising = λ up.
          let all = subst (AllPairs (λ v w. number v < number w)) split up in
          all_pairs_push (λ d e. place d < place e) claims c (made.rising (pairs_before (λ v w. number v < number w) (take i xs) x all)) (λ k d inside.
          let (y, there, of) = made.each (get_or claims k d) (Contains-get_or claims k d inside) in
          let less = pairs_last (λ v w. number v < number w) (take i xs) x y all there in
          let one = numbered y (get_or claims k d) of in
          let other = numbered x c is in
          omega (arith, less, one, other));
    }

    -- it has none
    pub made_less : (HasOne x → ⊥) → AreOneEach IsOf HasOne number place (take (i + 1) xs) claims
    made_less none = record {
      each = λ d has. (let (y, there, of) = made.each d has in (y, before y there, of));
      complete = λ y has one. elim (Contains-push_cases (take i xs) x y (subst (λ l. Contains l y) split has)) [
        | inl old ↦ made.complete y old one
        | inr same ↦ absurd (none (subst HasOne (sym same) one))
      ];
      rising = λ up. made.rising (pairs_before (λ v w. number v < number w) (take i xs) x (subst (AllPairs (λ v w. number v < number w)) split up));
    }

-- ---- in order

-- things with different numbers rise where their numbers don't fall
pub rise_in_order : {X : Type 0} (number : X → ℕ) (xs ys : List X) → AllPairs (λ x y. number x ≡ number y → ⊥) xs → IsPermutation xs ys → IsNonDecreasingBy number ys
    → AllPairs (λ x y. number x < number y) ys
rise_in_order number xs ys differ moved sorted i j d less within =
    let size = length-map xs number in
    let size_ys = length-map ys number in
    let distinct : IsDistinct eqb (map number xs) = IsDistinct-from_apart eqb (map number xs) (λ k m e up inside.
    let in_m : m < length xs = omega (arith, size, inside) in
    let in_k : k < length xs = omega (arith, up, in_m) in
    ne_eqb _ _ (λ equal. differ k m d up in_m (sym (get_or-map number xs k d e in_k) ∙ equal ∙ get_or-map number xs m d e in_m))) in
    let never_down : IsNonDecreasing (map number ys) = λ k m e up inside.
    let in_m : m < length ys = omega (arith, size_ys, inside) in
    let in_k : k < length ys = omega (arith, up, in_m) in
    let low = sorted k m d up in_m in
    let one = get_or-map number ys k d e in_k in
    let other = get_or-map number ys m d e in_m in
    omega (arith, low, one, other) in
    let increasing = IsStrictlyIncreasing-from_distinct (map number ys) never_down
    (IsDistinct-IsPermutation eqb (λ x y. grind (arith, nat_tests)) (map number xs) (map number ys) (IsPermutation-map number xs ys moved) distinct) in
    let low = AllPairs-from_increasing (map number ys) increasing i j 0 less (omega (arith, size_ys, within)) in
    let one = get_or-map number ys i d 0 (omega (arith, less, within)) in
    let other = get_or-map number ys j d 0 within in
    omega (arith, low, one, other)
