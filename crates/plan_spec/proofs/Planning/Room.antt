-- Where a pool's first item stands, and that what fits stays in the pool.
use Rattle.std.proofs.Common.{◌≡◌, ℕ, suc, ◌+◌, ◌-◌, ◌*◌, ◌/◌, ◌%◌, ◌^◌, ◌<◌, ◌≤◌, inl, inr, List, [], ◌∷◌, ◌++◌, map, refl, true, max, min, arith, ◌∙◌, ap, length, get_or}
use Rattle.std.specs.Bool.{nat_le, ◌==◌}
use Rattle.std.specs.List.{sum, fold, flat_map}
use Rattle.std.proofs.lemmas.Bool.{cases_lt, or_cases, leb-true, eqb-true}
use Rattle.std.proofs.lemmas.Nat.{div-add-mod', mod_below}
use Rattle.std.proofs.Math.Nat.{mul-le-mul_right, mul-mod_left}
use Rattle.std.proofs.lemmas.List.Sums.{sum_by-append}
use Rattle.pci_spec.specs.Window.{WindowKind}
use Rattle.pci_spec.specs.System.{System}
use Rattle.plan_spec.specs.Plan.{Pools, pool_of, items_on, need_of, need_of_roots, greatest_of_roots, raised_to, greatest, fits}
use Rattle.plan_spec.specs.Planning.Placing.{IsFalling}
use Rattle.plan_spec.specs.Planning.Room.{IsRaised, root_items}
use Rattle.plan_spec.proofs.Planning.Placement.{multiple_of_mod, sum_cons}

raised_at : (size n q r m : ℕ) → 0 < size → q * size + r ≡ n + size - 1 → r < size → (n ≤ q * size) × (q * size < n + size)
raised_at size n q r m pos e small = (omega (arith, e, small, pos), omega (arith, e, pos))

pub raised : (size n : ℕ) → 0 < size → IsRaised size n (raised_to size n)
raised size n pos =
    let q = (n + size - 1) / size in
    let e = div-add-mod' (n + size - 1) size in
    let small = mod_below (n + size - 1) size pos in
    let range = raised_at size n q ((n + size - 1) % size) 0 pos e small in
    record {
      multiple = mul-mod_left q size;
      from = range.0;
      below = range.1;
      least = λ m whole up. elim (cases_lt m (q * size)) [
        | inr fine ↦ fine
        | inl under ↦
            let k = multiple_of_mod m size whole in
            elim (cases_lt k.0 q) [
              | inl less ↦
                  let step : suc k.0 * size ≤ q * size = mul-le-mul_right size less in
                  let is = k.1 in
                  let high = range.1 in
                  absurd (let impossible : ⊥ = omega (arith, step, is, high, up, pos) in impossible)
              | inr more ↦
                  let step : q * size ≤ k.0 * size = mul-le-mul_right size more in
                  let is = k.1 in
                  absurd (let impossible : ⊥ = omega (arith, step, is, under) in impossible)
            ]
      ];
    }

max_stays : (m : ℕ) (xs : List ℕ) → ((k : ℕ) → k < length xs → get_or xs k 0 ≤ m) → fold max m xs ≡ m
max_stays m [] below = refl
max_stays m (x ∷ xs) below =
    let first = below 0 (omega arith) in
    let e : max m x ≡ m = omega (arith, first) in
    ap (λ n. fold max n xs) e ∙ max_stays m xs (λ k l. below (suc k) (omega (arith, l)))

-- the greatest of sizes in falling order is the first
pub greatest_is_first : (sizes : List ℕ) → IsFalling sizes → greatest sizes ≡ get_or sizes 0 0
greatest_is_first [] falling = refl
greatest_is_first (x ∷ xs) falling =
    let e : max 0 x ≡ x = omega arith in
    ap (λ n. fold max n xs) e ∙ max_stays x xs (λ k l. falling.falling 0 (suc k) (omega arith) (omega (arith, l)))

-- where no pool holds 2 ^ 65 addresses, a need that fits isn't cut
limited_sum : (roots : List ℕ) (s : System) (pools : Pools) (c : WindowKind) (most : ℕ) → need_of_roots roots s pools c ≤ most → most < 2 ^ 65
    → sum (root_items roots s pools c) ≡ need_of_roots roots s pools c
limited_sum [] s pools c most h low = refl
limited_sum (root ∷ roots) s pools c most h low =
    let e = sum_cons (need_of s pools c root) (map (need_of s pools c) roots) in
    let first : min (2 ^ 65) (sum (items_on s pools c root)) ≤ most = omega (arith, e, h) in
    let rest = limited_sum roots s pools c most (omega (arith, e, h)) low in
    let a : sum (items_on s pools c root ++ flat_map (items_on s pools c) roots) ≡ sum (items_on s pools c root) + sum (flat_map (items_on s pools c) roots) =
    sum_by-append (λ n. n) (items_on s pools c root) (flat_map (items_on s pools c) roots) in
    a ∙ omega (arith, e, rest, first, low)

-- what fits has room from the raised start on, and its need isn't cut
pub room_of_fit : (roots : List ℕ) (s : System) (pools : Pools) (c : WindowKind) → fits roots s pools c ≡ true → (pool_of pools c).last < 2 ^ 64 → 0 < sum (root_items roots s pools c)
    → raised_to (greatest (root_items roots s pools c)) (pool_of pools c).first + sum (root_items roots s pools c) ≤ (pool_of pools c).last + 1
room_of_fit roots s pools c fit low some =
    let n = need_of_roots roots s pools c in
    let start = raised_to (greatest_of_roots roots s pools c) (pool_of pools c).first in
    elim (or_cases (n == 0) (nat_le (start + n) ((pool_of pools c).last + 1)) fit) [
      | inl none ↦
          let z = eqb-true n 0 none in
          let e = limited_sum roots s pools c 0 (omega (arith, z)) (omega arith) in
          absurd (let impossible : ⊥ = omega (arith, z, e, some) in impossible)
      | inr room ↦
          let r = leb-true (start + n) ((pool_of pools c).last + 1) room in
          let e = limited_sum roots s pools c ((pool_of pools c).last + 1) (omega (arith, r)) (omega (arith, low)) in
          omega (arith, r, e)
    ]
