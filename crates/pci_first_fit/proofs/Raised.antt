-- The least multiple of an alignment from an address on.
use Rattle.std.proofs.Common.{◌≡◌, ℕ, suc, ◌+◌, ◌-◌, ◌*◌, ◌/◌, ◌%◌, ◌<◌, ◌≤◌, inl, inr, arith}
use Rattle.std.proofs.lemmas.Bool.{cases_lt}
use Rattle.std.proofs.lemmas.Nat.{div-add-mod', mod_below}
use Rattle.std.proofs.Math.Nat.{mul-le-mul_right}
use Rattle.plan_spec.specs.Plan.{raised_to}
use Rattle.plan_spec.proofs.Planning.Room.{raised}
use Rattle.plan_spec.proofs.Planning.Placement.{mod_of_multiple, multiple_of_mod}

-- a multiple less than a step above the address is it
raised_is : (k n m : ℕ) → 0 < k → m % k ≡ 0 → n ≤ m → m < n + k → m ≡ raised_to k n
raised_is k n m pos whole up below =
    let r = raised k n pos in
    let lower = r.least m whole up in
    let j = multiple_of_mod m k whole in
    let q = multiple_of_mod (raised_to k n) k r.multiple in
    let is = j.1 in
    let was = q.1 in
    let from = r.from in
    elim (cases_lt q.0 j.0) [
      | inl less ↦ let step : suc q.0 * k ≤ j.0 * k = mul-le-mul_right k less in absurd (let no : ⊥ = omega (arith, step, is, was, from, below) in no)
      | inr more ↦ let step : j.0 * k ≤ q.0 * k = mul-le-mul_right k more in omega (arith, step, is, was, lower)
    ]

pub raised_even : (k n : ℕ) → 0 < k → n % k ≡ 0 → n ≡ raised_to k n
raised_even k n pos even = raised_is k n n pos even (omega arith) (omega (arith, pos))

pub raised_up : (k n : ℕ) → 0 < k → (n % k ≡ 0 → ⊥) → n + (k - n % k) ≡ raised_to k n
raised_up k n pos odd =
    let e = div-add-mod' n k in
    let small = mod_below n k pos in
    let is : n + (k - n % k) ≡ suc (n / k) * k = omega (arith, e, small) in
    let some : 0 < n % k = omega (arith, odd) in
    raised_is k n (n + (k - n % k)) pos (mod_of_multiple (n + (k - n % k)) k (suc (n / k), is)) (omega arith) (omega (arith, some, pos))
