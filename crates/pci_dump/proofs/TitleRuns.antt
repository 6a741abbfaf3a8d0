-- From the mask of sixteen bytes to how far a title goes.
use Rattle.std.proofs.Common.{◌≡◌, ℕ, ◌+◌, ◌-◌, ◌%◌, ◌^◌, ◌<◌, ◌≤◌, Bool, true, false, not, List, [], ◌∷◌, map, length, get_or, take, Fits, w8, refl, sym, ap, ap₂, ◌∙◌, subst, arith, inl, inr, IsTrue}
use Rattle.std.specs.List.{All, prefix_len}
use Rattle.std.proofs.lemmas.Bool.{agree_below, agree_below_at, not-true, not-false, cases_eq, eq-eqb, ne_eqb, cond-true, cond-false}
use Rattle.std.proofs.lemmas.Simd.{map-map, mask_l-mod, length-chunk, get_or-chunk, leading_from_mask_l, trailing_mask_l}
use Rattle.std.proofs.lemmas.List.{length-map, length-take-le, get_or-take}
use Rattle.std.proofs.lemmas.List.Sums.{prefix_len-le-length, prefix_len_passes, prefix_len_stops}
use Rattle.std.proofs.lemmas.List.Elements.{All-from_get_or}
use lib.Lanes.{chunk, zip2, mask_l, top}
use Rattle.pci_spec.specs.Text.{is_title_byte}
use Rattle.pci_dump.specs.TitleRun.{IsTitleRun, first_of_16}

zip2-map : (h : ℕ → ℕ → ℕ) (f g : ℕ → ℕ) (xs : List ℕ) → zip2 h (map f xs) (map g xs) ≡ map (λ x. h (f x) (g x)) xs
zip2-map h f g [] = refl
zip2-map h f g (x ∷ xs) = ap (λ r. h (f x) (g x) ∷ r) (zip2-map h f g xs)

-- an operation on two vectors that were computed lane by lane from a third
pub joined : (h : ℕ → ℕ → ℕ) (f g : ℕ → ℕ) (v : List ℕ) {a b : List ℕ} → a ≡ map f v → b ≡ map g v → zip2 h a b ≡ map (λ x. h (f x) (g x)) v
joined h f g v p q = ap₂ (zip2 h) p q ∙ zip2-map h f g v

run_is : (p : ℕ → Bool) (v : List ℕ) → length v ≡ 16 → first_of_16 (mask_l (map p v)) ≡ prefix_len (λ x. not (p x)) v
run_is p v long =
    elim (cases_eq (mask_l (map p v)) 0) [
      | inl none ↦ cond-true _ _ _ (eq-eqb _ _ none) ∙ sym (leading_from_mask_l p v none ∙ long)
      | inr some ↦ cond-false _ _ _ (ne_eqb _ _ some) ∙ trailing_mask_l p 64 v (omega (arith, long)) (omega arith)
    ]

-- a lane is set just where its byte may not stand in a title
pub title_run_is : (bytes : List ℕ) (at run : ℕ) (z : List ℕ) → at + 16 ≤ length bytes → ((k : ℕ) → Fits w8 (get_or bytes k 0)) → run ≡ first_of_16 (mask_l (map (top 7) z) % 2 ^ 64)
    → (f : ℕ → ℕ) → z ≡ map f (chunk at 16 bytes) → agree_below (λ x. top 7 (f x)) (λ x. not (is_title_byte x)) 256 ≡ true → IsTitleRun bytes at run
title_run_is bytes at run z room fits found f lanes all =
    let v = chunk at 16 bytes in
    let stops : ℕ → Bool = λ x. top 7 (f x) in
    let long : length v ≡ 16 = length-chunk at 16 bytes room in
    let mask = ap (λ l. mask_l l % 2 ^ 64) (ap (map (top 7)) lanes ∙ map-map (top 7) f v) ∙ mask_l-mod (map stops v) 64 (omega (arith, length-map v stops, long)) in
    let counted : run ≡ prefix_len (λ x. not (stops x)) v = found ∙ ap first_of_16 mask ∙ run_is stops v long in
    let bound = prefix_len-le-length (λ x. not (stops x)) v in
    record {
      few = omega (arith, counted, long, bound);
      each = λ k from to.
          let back : at + (k - at) ≡ k = omega (arith, from) in
          let place = get_or-chunk at 16 bytes (k - at) 0 (omega (arith, from, to, counted, long, bound)) ∙ ap (λ j. get_or bytes j 0) back in
          let goes_on = subst (λ x. stops x ≡ false) place (not-true _ (prefix_len_passes (λ x. not (stops x)) v (k - at) 0 (omega (arith, from, to, counted)))) in
          not-false _ (sym (agree_below_at stops (λ x. not (is_title_byte x)) 256 (get_or bytes k 0) all (fits k).fits) ∙ goes_on);
      last = λ short.
          let place = ap (λ j. get_or v j 0) (sym counted) ∙ get_or-chunk at 16 bytes run 0 short in
          let set = subst (λ x. stops x ≡ true) place (not-false _ (prefix_len_stops (λ x. not (stops x)) v 0 (omega (arith, counted, long, short)))) in
          not-true _ (sym (agree_below_at stops (λ x. not (is_title_byte x)) 256 (get_or bytes (at + run) 0) all (fits (at + run)).fits) ∙ set);
    }

-- a title's bytes, one by one
pub all_title : (bytes : List ℕ) (n : ℕ) → n ≤ length bytes → ((k : ℕ) → k < n → is_title_byte (get_or bytes k 0) ≡ true) → All (λ c. IsTrue (is_title_byte c)) (take n bytes)
all_title bytes n within each =
    let long = length-take-le n bytes within in
    All-from_get_or (λ c. IsTrue (is_title_byte c)) (take n bytes) 0 (λ k below.
    let inside : k < n = omega (arith, below, long) in
    subst (λ x. is_title_byte x ≡ true) (sym (get_or-take n bytes k 0 inside)) (each k inside))
