-- Lists of numbers that rise.
use Rattle.std.proofs.Common.{◌≡◌, ℕ, zero, suc, ◌+◌, ◌<◌, List, [], ◌∷◌, length, get_or, sym, ◌∙◌, subst, inl, inr, arith, refl, slice_index}
use Rattle.std.specs.List.{Contains, AllPairs}
use Rattle.std.specs.List.Sorted.{IsStrictlyIncreasing}
use Rattle.std.proofs.lemmas.List.{get_or_default}
use Rattle.pci_spec.proofs.Members.{in_nil, in_cons_cases, in_head, in_tail, pairs_nil, pairs_cons, pairs_head, pairs_tail}

abbrev Below : ℕ → ℕ → Type 0
Below x y = x < y

-- a list that rises from each number to the next rises from each to each later one
rises_from : (x : ℕ) (xs : List ℕ) (k : ℕ) → IsStrictlyIncreasing (x ∷ xs) → k < length xs → x < slice_index xs k
rises_from x xs zero rising within = rising 0 (omega arith)
rises_from x xs (suc k) rising within =
    let before : x < slice_index xs k = rises_from x xs k rising (omega arith) in
    let e : suc k + 1 ≡ suc (suc k) = omega arith in
    let step : slice_index xs k < slice_index xs (suc k) = subst (λ n. slice_index xs k < get_or (x ∷ xs) n 0) e (rising (suc k) (omega arith)) in
    omega arith

pub rising_tail : (x : ℕ) (xs : List ℕ) → IsStrictlyIncreasing (x ∷ xs) → IsStrictlyIncreasing xs
rising_tail x xs rising k within =
    let e : suc k + 1 ≡ suc (k + 1) = omega arith in
    subst (λ n. slice_index xs k < get_or (x ∷ xs) n 0) e (rising (suc k) (omega arith))

pub pairs_of_rising : (xs : List ℕ) → IsStrictlyIncreasing xs → AllPairs Below xs
pairs_of_rising [] rising = pairs_nil Below
pairs_of_rising (x ∷ xs) rising =
    pairs_cons Below x xs
    (λ y (k, within, at). (let up : x < slice_index xs k = rises_from x xs k rising within in
    let e : slice_index xs k ≡ y = get_or_default xs k 0 y within ∙ at in omega arith))
    (pairs_of_rising xs (rising_tail x xs rising))

pub rising_of_pairs : (xs : List ℕ) → AllPairs Below xs → IsStrictlyIncreasing xs
rising_of_pairs xs pairs k within = pairs k (k + 1) 0 (omega arith) within

-- two lists that rise and have the same numbers are one
pub same_rising : (xs ys : List ℕ) → AllPairs Below xs → AllPairs Below ys → ((n : ℕ) → Contains xs n → Contains ys n) → ((n : ℕ) → Contains ys n → Contains xs n) → xs ≡ ys
same_rising [] [] risex risey to from = refl
same_rising [] (y ∷ ys) risex risey to from = absurd (in_nil y (from y (in_head y ys)))
same_rising (x ∷ xs) [] risex risey to from = absurd (in_nil x (to x (in_head x xs)))
same_rising (x ∷ xs) (y ∷ ys) risex risey to from =
    let e : x ≡ y = elim (in_cons_cases y ys x (to x (in_head x xs))) [
      | inl here ↦ sym here
      | inr later ↦ (let up : y < x = pairs_head Below y ys x risey later in
          elim (in_cons_cases x xs y (from y (in_head y ys))) [ inl here ↦ here | inr deeper ↦ (let down : x < y = pairs_head Below x xs y risex deeper in omega arith) ])
    ] in
    let rest : xs ≡ ys = same_rising xs ys (pairs_tail Below x xs risex) (pairs_tail Below y ys risey)
    (λ n has. (let up : x < n = pairs_head Below x xs n risex has in
    elim (in_cons_cases y ys n (to n (in_tail x xs n has))) [ inl here ↦ absurd (omega arith) | inr later ↦ later ]))
    (λ n has. (let up : y < n = pairs_head Below y ys n risey has in
    elim (in_cons_cases x xs n (from n (in_tail y ys n has))) [ inl here ↦ absurd (omega arith) | inr later ↦ later ])) in
    cc
