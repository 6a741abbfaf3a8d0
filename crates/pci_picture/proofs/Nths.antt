-- What `nth` of an iterator gives, and what it leaves.
use Rattle.std.proofs.Common.{◌≡◌, ◌≤◌, ◌+◌, ℕ, zero, suc, List, [], ◌∷◌, length, drop, Option, Some, None, refl, sym, ap, subst, ◌∙◌, arith}
use Rattle.std.specs.List.{slice_get}
use Rattle.std.specs.Option.{unwrap_or}
use Rattle.std.specs.Iterator.{AlwaysYields, Yields, YieldsThen}
use Rattle.std.proofs.lemmas.Iterator.{YieldsList}
use Rattle.std.proofs.lemmas.List.{drop-drop}

module _ {S A B : Type 0} (steps : S → Option A → S → Type 0) (v : A → B) where
  left_after : (xs : List A) (x : A) (all : List B) (s t u : S) → Yields steps s xs t → steps t (Some x) u → AlwaysYields steps v s all
      → AlwaysYields steps v u (drop (suc (length xs)) all)
  left_after [] x [] s t u y p g = absurd (g x u (subst (λ z. steps z (Some x) u) (sym y) p))
  left_after [] x (b ∷ all) s t u y p g = (g.1 x u (subst (λ z. steps z (Some x) u) (sym y) p)).1
  left_after (a ∷ xs) x [] s t u y p g = absurd (g a y.0 y.1)
  left_after (a ∷ xs) x (b ∷ all) s t u y p g = left_after xs x all y.0 t u y.2 p (g.1 a y.0 y.1).1

-- behind the item at an index of what is left
pub nth_leaves : {S A B : Type 0} {steps : S → Option A → S → Type 0} {v : A → B} {s : S} (all : List B) (x : A) (u : S) (k n m : ℕ)
    → ((xs : List A) × YieldsThen steps s xs (Some x) u × (length xs ≡ n)) → YieldsList steps v s (drop k all) → k + suc n ≡ m
    → YieldsList steps v u (drop m all)
nth_leaves {S} {A} {B} {steps} {v} {s} all x u k n m h e is = record {
  runs = subst (AlwaysYields steps v u) (drop-drop (suc n) k all ∙ ap (λ j. drop j all) (omega (arith, is)))
      (subst (λ j. AlwaysYields steps v u (drop (suc j) (drop k all))) h.2 (left_after steps v h.0 x (drop k all) s h.1.0 u h.1.1 h.1.2 e.runs));
}

get_behind : {X : Type 0} (k n m : ℕ) (all : List X) → k + n ≡ m → slice_get (drop k all) n ≡ slice_get all m
get_behind zero n m all is = ap (slice_get all) (omega (arith, is))
get_behind (suc k) n m [] is = refl
get_behind (suc k) n zero (x ∷ all) is = absurd (omega (arith, is))
get_behind (suc k) n (suc m) (x ∷ all) is = get_behind k n m all (omega (arith, is))

none_behind : {X : Type 0} (n m : ℕ) (all : List X) → slice_get all n ≡ None → n ≤ m → slice_get all m ≡ None
none_behind n m [] none le = refl
none_behind zero m (x ∷ all) none le = absurd (cc)
none_behind (suc n) zero (x ∷ all) none le = absurd (omega (arith, le))
none_behind (suc n) (suc m) (x ∷ all) none le = none_behind n m all none (omega (arith, le))

-- where an item is missing, so are those behind it
pub none_left : {X : Type 0} (k n m : ℕ) (d : X) (all : List X) (r : Option X) → r ≡ slice_get (drop k all) n → r ≡ None → k + n ≤ m
    → d ≡ unwrap_or (slice_get all m) d
none_left k n m d all r is none le =
    sym (ap (λ o. unwrap_or o d) (none_behind (k + n) m all (sym (get_behind k n (k + n) all refl) ∙ sym is ∙ none) le))

pub one_left : {X : Type 0} (k n m : ℕ) (x d : X) (all : List X) → Some x ≡ slice_get (drop k all) n → k + n ≡ m
    → x ≡ unwrap_or (slice_get all m) d
one_left k n m x d all is same = ap (λ o. unwrap_or o d) (is ∙ get_behind k n m all same)
