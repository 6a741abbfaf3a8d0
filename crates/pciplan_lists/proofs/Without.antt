-- Texts in which a byte doesn't stand: where such a text ends before that byte.
use Rattle.std.proofs.Common.{◌≡◌, ◌≢◌, ℕ, zero, suc, ◌<◌, List, [], ◌∷◌, ◌++◌, length, get_or, drop, refl, sym, ◌∙◌, ap, arith}
use Rattle.std.proofs.lemmas.List.{length-append, get_or_at}

-- the byte stands nowhere in a text
abbrev pub Without : ℕ → List ℕ → Type 0
Without byte text = (i : ℕ) → i < length text → get_or text i 0 ≢ byte

pub without_one : (byte x : ℕ) (text : List ℕ) → x ≢ byte → Without byte text → Without byte (x ∷ text)
without_one byte x text other rest zero inside = other
without_one byte x text other rest (suc i) inside = rest i (omega arith)

pub without_both : (byte : ℕ) (xs ys : List ℕ) → Without byte xs → Without byte ys → Without byte (xs ++ ys)
without_both byte [] ys front back = back
without_both byte (x ∷ xs) ys front back =
    without_one byte x (xs ++ ys) (front 0 (omega arith)) (without_both byte xs ys (λ i inside. front (suc i) (omega arith)) back)

pub not_without : (byte : ℕ) (xs ys : List ℕ) → Without byte (xs ++ byte ∷ ys) → ⊥
not_without byte xs ys none =
    none (length xs) (omega (arith, length-append xs (byte ∷ ys))) (get_or_at xs byte ys 0 (length xs) refl)

-- a text is empty, or begins with the byte
abbrev pub IsBehind : ℕ → List ℕ → Type 0
IsBehind byte text = 0 < length text → get_or text 0 0 ≡ byte

-- a text is cut before a byte in one way
pub cut_same : (byte : ℕ) (xs ys u v : List ℕ) → Without byte xs → Without byte ys → IsBehind byte u → IsBehind byte v
    → xs ++ u ≡ ys ++ v → (xs ≡ ys) × (u ≡ v)
cut_same byte [] [] u v no_x no_y at_u at_v e = (refl, e)
cut_same byte [] (y ∷ ys) u v no_x no_y at_u at_v e =
    absurd (no_y 0 (omega arith) (sym (ap (λ t. get_or t 0 0) e) ∙ at_u (omega (arith, ap length e))))
cut_same byte (x ∷ xs) [] u v no_x no_y at_u at_v e =
    absurd (no_x 0 (omega arith) (ap (λ t. get_or t 0 0) e ∙ at_v (omega (arith, ap length e))))
cut_same byte (x ∷ xs) (y ∷ ys) u v no_x no_y at_u at_v e =
    let rest = cut_same byte xs ys u v (λ i inside. no_x (suc i) (omega arith)) (λ i inside. no_y (suc i) (omega arith)) at_u at_v (ap (λ t. drop 1 t) e) in
    (λ i. ap (λ t. get_or t 0 0) e i ∷ rest.0 i, rest.1)
