-- Steps of depth.
use Rattle.std.proofs.Common.{◌≡◌, ℕ, zero, suc, ◌+◌, ◌*◌, ◌/◌, ◌%◌, ◌≤◌, List, ◌∷◌, ◌++◌, refl, ap, sym, ◌∙◌, arith, codes, append-nil, replicate, take}
use Rattle.std.proofs.lemmas.List.{append_assoc, take-replicate}
use Rattle.judge_spec.specs.MapText.{indent}

pub no_indent : (start : List ℕ) → start ≡ start ++ indent 0
unfolding indent
no_indent start = sym (append-nil start)

deeper : (n m : ℕ) → indent n ++ indent m ≡ indent (n + m)
unfolding indent
deeper zero m = ap indent (let e : m ≡ 0 + m = omega arith in e)
deeper (suc n) m = ap (λ t. 32 ∷ 32 ∷ t) (deeper n m) ∙ ap indent (let e : suc (n + m) ≡ suc n + m = omega arith in e)

-- the spaces of many steps
abbrev many : List ℕ
many = codes "                                                                "

many_are : many ≡ indent 32
unfolding indent
many_are = refl

pub many_more : (start old new : List ℕ) (n : ℕ) → old ≡ start ++ indent (32 * n) → new ≡ old ++ codes "                                                                "
    → new ≡ start ++ indent (32 * (n + 1))
many_more start old new n so more =
    let next : 32 * n + 32 ≡ 32 * (n + 1) = omega arith in
    more ∙ ap (λ t. t ++ many) so ∙ append_assoc start (indent (32 * n)) many ∙ ap (λ t. start ++ (indent (32 * n) ++ t)) many_are
    ∙ ap (λ t. start ++ t) (deeper (32 * n) 32) ∙ ap (λ k. start ++ indent k) next

spaces : (n : ℕ) → replicate (n + n) 32 ≡ indent n
unfolding indent
spaces zero = refl
spaces (suc n) = ap (λ k. replicate k 32) (let e : suc n + suc n ≡ suc (suc (n + n)) = omega arith in e) ∙ ap (λ t. 32 ∷ 32 ∷ t) (spaces n)

pub first_spaces : (n : ℕ) → n ≤ 32 → take (2 * n) (replicate 64 32) ≡ indent n
first_spaces n few = take-replicate (2 * n) 64 32 (omega (arith, few)) ∙ ap (λ k. replicate k 32) (let e : 2 * n ≡ n + n = omega arith in e) ∙ spaces n

-- what stands behind the spaces of many steps and of those that are left
pub deep_pushed : (start steps cells new range rest : List ℕ) (depth : ℕ) → steps ≡ start ++ indent (32 * (depth / 32))
    → cells ≡ (indent (depth % 32) ++ range) ++ rest → new ≡ steps ++ cells → new ≡ start ++ (indent depth ++ (range ++ rest))
deep_pushed start steps cells new range rest depth st ct pushed =
    let first = indent (32 * (depth / 32)) in
    let left = indent (depth % 32) in
    let all : 32 * (depth / 32) + depth % 32 ≡ depth = omega arith in
    pushed ∙ (λ i. st i ++ ct i) ∙ append_assoc start first ((left ++ range) ++ rest)
    ∙ ap (λ t. start ++ (first ++ t)) (append_assoc left range rest)
    ∙ ap (λ t. start ++ t) (sym (append_assoc first left (range ++ rest)))
    ∙ ap (λ t. start ++ (t ++ (range ++ rest))) (deeper (32 * (depth / 32)) (depth % 32) ∙ ap indent all)
