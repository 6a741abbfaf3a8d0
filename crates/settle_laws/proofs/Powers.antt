-- Alignments that are powers of two: the greatest of them is a multiple of each.
use Rattle.std.proofs.Common.{◌≡◌, ℕ, ◌%◌, ◌≤◌, max, inl, inr, List, [], ◌∷◌, arith, subst}
use Rattle.std.specs.List.{Contains}
use Rattle.std.proofs.lemmas.Bool.{cases_lt}
use Rattle.pci_spec.proofs.Members.{in_nil, in_head, in_tail, in_cons_cases}
use Rattle.plan_spec.specs.Plan.{greatest}
use Rattle.plan_spec.specs.Planning.Placing.{IsPower}
use Rattle.plan_spec.proofs.Planning.Placement.{mod_of_multiple, multiple_of_mod, multiple_trans, power_multiple}
use Rattle.settle_spec.proofs.LaidOut.{greatest_more}

max_power : (x y : ℕ) → IsPower x → IsPower y → IsPower (max x y)
max_power x y is_x is_y = elim (cases_lt x y) [
  | inl less ↦ (let e : y ≡ max x y = omega (arith, less) in subst IsPower e is_y)
  | inr up ↦ (let e : x ≡ max x y = omega (arith, up) in subst IsPower e is_x)
]

pub greatest_power : (page : ℕ) (xs : List ℕ) → IsPower page → ((x : ℕ) → Contains xs x → IsPower x) → IsPower (max page (greatest xs))
greatest_power page [] is each = let e : page ≡ max page (greatest []) = omega arith in subst IsPower e is
greatest_power page (x ∷ xs) is each =
    let more = greatest_power (max page x) xs (max_power page x is (each x (in_head x xs))) (λ y has. each y (in_tail x xs y has)) in
    let step = greatest_more x xs in
    let e : max (max page x) (greatest xs) ≡ max page (greatest (x ∷ xs)) = omega (arith, step) in
    subst IsPower e more

pub below_greatest : (xs : List ℕ) (x : ℕ) → Contains xs x → x ≤ greatest xs
below_greatest [] x has = absurd (in_nil x has)
below_greatest (y ∷ xs) x has =
    let step = greatest_more y xs in
    elim (in_cons_cases y xs x has) [
      | inl same ↦ omega (arith, step, same)
      | inr later ↦ (let more = below_greatest xs x later in omega (arith, step, more))
    ]

-- a multiple of a power of two is one of each that isn't above it
pub multiple_below : (a x y : ℕ) → IsPower x → IsPower y → y ≤ x → a % x ≡ 0 → a % y ≡ 0
multiple_below a x y is_x is_y less multiple = mod_of_multiple a y (multiple_trans a x y (multiple_of_mod a x multiple) (power_multiple x y is_x is_y less))
