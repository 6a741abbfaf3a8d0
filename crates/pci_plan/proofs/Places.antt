-- The n-th step by arithmetic.
use Rattle.std.proofs.Common.{◌≡◌, ℕ, zero, suc, ◌+◌, ◌-◌, ◌≤◌, List, [], ◌∷◌, refl, arith, ◌∙◌, ap, length, Some, None}
use Rattle.std.specs.List.{slice_get}
use Rattle.std.specs.Option.{option_map}
use Rattle.std.proofs.lemmas.Option.{slice_get_past}
use Rattle.pci_spec.specs.Machine.{Write}
use Rattle.pci_plan.specs.Steps.{compare_step, make_step, read_back_step, write_steps, steps_of}

-- ---- steps by the lists that they are for

pub step_compare : (cs ws : List Write) (n : ℕ) (w : Write) → slice_get cs n ≡ Some w → slice_get (steps_of cs ws) n ≡ Some (compare_step w)
step_compare [] ws n w at = absurd (let impossible : ⊥ = cc in impossible)
step_compare (c ∷ cs) ws zero w at = ap (λ o. option_map compare_step o) at
step_compare (c ∷ cs) ws (suc n) w at = step_compare cs ws n w at

step_past : (cs ws : List Write) (m : ℕ) → slice_get (steps_of cs ws) (length cs + m) ≡ slice_get (write_steps 0 ws) m
step_past [] ws m = let same : 0 + m ≡ m = omega arith in ap (λ k. slice_get (write_steps 0 ws) k) same
step_past (c ∷ cs) ws m =
    let next : length (c ∷ cs) + m ≡ suc (length cs + m) = omega arith in
    ap (λ k. slice_get (steps_of (c ∷ cs) ws) k) next ∙ step_past cs ws m

make_at : (done : ℕ) (ws : List Write) (i : ℕ) (w : Write) → slice_get ws i ≡ Some w → slice_get (write_steps done ws) (i + i) ≡ Some (make_step (done + i) w)
make_at done [] i w at = absurd (let impossible : ⊥ = cc in impossible)
make_at done (x ∷ ws) zero w at =
    let same : done ≡ done + 0 = omega arith in
    ap (λ n. Some (make_step n x)) same ∙ ap (λ o. option_map (make_step (done + 0)) o) at
make_at done (x ∷ ws) (suc i) w at =
    let twice : suc i + suc i ≡ suc (suc (i + i)) = omega arith in
    let same : suc done + i ≡ done + suc i = omega arith in
    ap (λ k. slice_get (write_steps done (x ∷ ws)) k) twice ∙ make_at (suc done) ws i w at ∙ ap (λ n. Some (make_step n w)) same

read_back_at : (done : ℕ) (ws : List Write) (i : ℕ) (w : Write) → slice_get ws i ≡ Some w → slice_get (write_steps done ws) (i + i + 1) ≡ Some (read_back_step (done + i) w)
read_back_at done [] i w at = absurd (let impossible : ⊥ = cc in impossible)
read_back_at done (x ∷ ws) zero w at =
    let same : done ≡ done + 0 = omega arith in
    ap (λ n. Some (read_back_step n x)) same ∙ ap (λ o. option_map (read_back_step (done + 0)) o) at
read_back_at done (x ∷ ws) (suc i) w at =
    let twice : suc i + suc i + 1 ≡ suc (suc (i + i + 1)) = omega arith in
    let same : suc done + i ≡ done + suc i = omega arith in
    ap (λ k. slice_get (write_steps done (x ∷ ws)) k) twice ∙ read_back_at (suc done) ws i w at ∙ ap (λ n. Some (read_back_step n w)) same

length_writes : (done : ℕ) (ws : List Write) → length (write_steps done ws) ≡ length ws + length ws
length_writes done [] = refl
length_writes done (w ∷ ws) =
    let rest = length_writes (suc done) ws in
    let here : length (write_steps done (w ∷ ws)) ≡ suc (suc (length (write_steps (suc done) ws))) = refl in
    omega (arith, rest, here)

pub length_steps : (cs ws : List Write) → length (steps_of cs ws) ≡ length cs + (length ws + length ws)
length_steps [] ws = let l = length_writes 0 ws in omega (arith, l)
length_steps (c ∷ cs) ws = let rest = length_steps cs ws in omega (arith, rest)

pub step_make : (cs ws : List Write) (n i : ℕ) (w : Write) → slice_get ws i ≡ Some w → n ≡ length cs + (i + i) → slice_get (steps_of cs ws) n ≡ Some (make_step i w)
step_make cs ws n i w at place = ap (λ k. slice_get (steps_of cs ws) k) place ∙ step_past cs ws (i + i) ∙ make_at 0 ws i w at ∙ (let same : 0 + i ≡ i = omega arith in ap (λ k. Some (make_step k w)) same)

pub step_read_back : (cs ws : List Write) (n i : ℕ) (w : Write) → slice_get ws i ≡ Some w → n ≡ length cs + (i + i + 1) → slice_get (steps_of cs ws) n ≡ Some (read_back_step i w)
step_read_back cs ws n i w at place = ap (λ k. slice_get (steps_of cs ws) k) place ∙ step_past cs ws (i + i + 1) ∙ read_back_at 0 ws i w at ∙ (let same : 0 + i ≡ i = omega arith in ap (λ k. Some (read_back_step k w)) same)

pub step_none : (cs ws : List Write) (n : ℕ) → length cs + (length ws + length ws) ≤ n → slice_get (steps_of cs ws) n ≡ None
step_none cs ws n past = slice_get_past (steps_of cs ws) n (let l = length_steps cs ws in omega (arith, l, past))
