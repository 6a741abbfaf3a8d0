-- Places in a range, by each fact, and the last one of them.
use Rattle.std.proofs.Common.{◌≡◌, ℕ, suc, ◌+◌, ◌-◌, ◌*◌, ◌/◌, ◌%◌, ◌<◌, ◌≤◌, inl, inr, List, arith, refl, None, Some}
use Rattle.std.specs.Bool.{IsTrue, nat_le}
use Rattle.std.proofs.lemmas.Bool.{cases_lt, and_parts, and_from, leb-true, le-leb}
use Rattle.std.proofs.lemmas.Nat.{div-add-mod', mod_below}
use Rattle.std.proofs.Math.Nat.{mul-le-mul_right, div-mul-le_self}
use Rattle.pci_spec.specs.Decoded.{Range}
use Rattle.plan_spec.proofs.Planning.Placement.{mod_of_multiple, multiple_of_mod}
use Rattle.settle_spec.specs.FirstPlace.{Extent, is_spot, ends_by, is_place, HasNoPlace}
use Rattle.settle_spec.specs.LastPlace.{last_place_in, IsLastPlaceIn}
use Rattle.settle_spec.proofs.FirstSpot.{IsFreeFrom, spot_gives, spot_from}
use Rattle.settle_spec.proofs.LastSpot.{last_is, last_none, last_by, last_by_none}

-- ---- the greatest multiple up to a number

pub record IsLowered (k n m : ℕ) : Type 0 where
  pub multiple : m % k ≡ 0
  pub below : m ≤ n
  pub greatest : (b : ℕ) → b % k ≡ 0 → b ≤ n → b ≤ m

pub lowered : (k n : ℕ) → 0 < k → IsLowered k n (n / k * k)
lowered k n pos =
    let e = div-add-mod' n k in
    let small = mod_below n k pos in
    record {
      multiple = mod_of_multiple (n / k * k) k (n / k, refl);
      below = div-mul-le_self n k;
      greatest = λ b whole up.
          let j = multiple_of_mod b k whole in
          let is = j.1 in
          elim (cases_lt (n / k) j.0) [
            | inl less ↦ (let step : suc (n / k) * k ≤ j.0 * k = mul-le-mul_right k less in absurd (let no : ⊥ = omega (arith, step, is, e, small, up) in no))
            | inr more ↦ (let step : j.0 * k ≤ n / k * k = mul-le-mul_right k more in omega (arith, step, is))
          ];
    }

-- ---- places, by each fact

pub record IsPlaceIn (r : Range) (taken : List Range) (e : Extent) (b : ℕ) : Type 0 where
  pub spot : IsFreeFrom r.first taken e b
  pub last : b + (e.size - 1) ≤ r.last
  pub highest : b + (e.size - 1) ≤ e.highest

pub place_gives : (r : Range) (taken : List Range) (e : Extent) (b : ℕ) → IsTrue (is_place r taken e b) → IsPlaceIn r taken e b
place_gives r taken e b place =
    let parts = and_parts (is_spot r.first taken e b) (ends_by r e b) place in
    let ends = and_parts (nat_le (b + (e.size - 1)) r.last) (nat_le (b + (e.size - 1)) e.highest) parts.1 in
    record {
      spot = spot_gives r.first taken e b parts.0;
      last = leb-true (b + (e.size - 1)) r.last ends.0;
      highest = leb-true (b + (e.size - 1)) e.highest ends.1;
    }

pub place_from : (r : Range) (taken : List Range) (e : Extent) (b : ℕ) → IsPlaceIn r taken e b → IsTrue (is_place r taken e b)
place_from r taken e b is =
    and_from (is_spot r.first taken e b) (ends_by r e b) (spot_from r.first taken e b is.spot)
    (and_from (nat_le (b + (e.size - 1)) r.last) (nat_le (b + (e.size - 1)) e.highest) (le-leb (b + (e.size - 1)) r.last is.last)
    (le-leb (b + (e.size - 1)) e.highest is.highest))

-- ---- the last one

module _ (r : Range) (taken : List Range) (e : Extent) (some : 0 < e.size) (pos : 0 < e.alignment) where
  pub last_gives : (a : ℕ) → last_place_in r taken e ≡ Some a → IsLastPlaceIn r taken e a
  last_gives a = last_is r taken e pos some a

  pub last_from : (a : ℕ) → IsLastPlaceIn r taken e a → last_place_in r taken e ≡ Some a
  last_from a = last_by r taken e pos some a

  pub none_gives : last_place_in r taken e ≡ None → HasNoPlace r taken e
  none_gives = last_none r taken e pos some

  pub none_from : HasNoPlace r taken e → last_place_in r taken e ≡ None
  none_from = last_by_none r taken e pos some
