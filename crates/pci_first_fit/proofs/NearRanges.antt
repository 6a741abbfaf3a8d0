-- What is off all ranges in which a place is looked for need not be taken.
use Rattle.std.proofs.Common.{◌≡◌, ℕ, ◌+◌, ◌-◌, ◌<◌, ◌≤◌, inl, inr, ◌⊎◌, List, [], ◌∷◌, true, false, cond, arith, refl, sym, ◌∙◌, ap, None, Some}
use Rattle.std.specs.Bool.{nat_le, nat_lt}
use Rattle.std.specs.List.{Contains}
use Rattle.std.proofs.lemmas.Bool.{cases_Bool, or_cases, and_parts, and_from, ltb-true, leb-true, le-leb, both_ways, false_from_ne_true}
use Rattle.pci_spec.specs.Decoded.{Range}
use Rattle.pci_spec.proofs.Members.{in_head, in_tail}
use Rattle.settle_spec.specs.FirstPlace.{Extent, ranges_are_apart, is_spot, ends_by, first_spot, first_place_in, first_place, else_at}
use Rattle.settle_spec.proofs.FirstSpot.{spot_gives, spot_from, least_spot}

-- of what is taken each is in both lists, or shares no address with a range
pub record AreNear (r : Range) (xs ys : List Range) : Type 0 where
  pub fewer : (t : Range) → Contains ys t → Contains xs t
  pub rest : (t : Range) → Contains xs t → Contains ys t ⊎ (ranges_are_apart t r ≡ true)

module _ (r : Range) (xs ys : List Range) (e : Extent) (pos : 0 < e.alignment) (near : AreNear r xs ys) where
  near_spot : (b : ℕ) → is_spot r.first ys e b ≡ true → ends_by r e b ≡ true → is_spot r.first xs e b ≡ true
  near_spot b spot ends =
      let free = spot_gives r.first ys e b spot in
      let last = leb-true (b + (e.size - 1)) r.last (and_parts (nat_le (b + (e.size - 1)) r.last) (nat_le (b + (e.size - 1)) e.highest) ends).0 in
      let from = free.from in
      spot_from r.first xs e b (record {
        multiple = free.multiple;
        from = free.from;
        free = λ t listed. elim (near.rest t listed) [
          | inl here ↦ free.free t here
          | inr off ↦ elim (or_cases (nat_lt t.last r.first) (nat_lt r.last t.first) off) [
            | inl under ↦ (let low = ltb-true t.last r.first under in inr (omega (arith, low, from)))
            | inr over ↦ (let high = ltb-true r.last t.first over in inl (omega (arith, high, last)))
          ]
        ];
      })

  fewer_spot : (b : ℕ) → is_spot r.first xs e b ≡ true → is_spot r.first ys e b ≡ true
  fewer_spot b spot =
      let free = spot_gives r.first xs e b spot in
      spot_from r.first ys e b (record { multiple = free.multiple; from = free.from; free = λ t listed. free.free t (near.fewer t listed) })

  abbrev at : List Range → ℕ
  at taken = first_spot r.first taken e

  up : at ys ≤ at xs
  up = (least_spot r.first ys e pos).least (at xs) (fewer_spot (at xs) (least_spot r.first xs e pos).free)

  ends_down : ends_by r e (at xs) ≡ true → ends_by r e (at ys) ≡ true
  ends_down ends =
      let low = up in
      let parts = and_parts (nat_le (at xs + (e.size - 1)) r.last) (nat_le (at xs + (e.size - 1)) e.highest) ends in
      let last = leb-true (at xs + (e.size - 1)) r.last parts.0 in
      let highest = leb-true (at xs + (e.size - 1)) e.highest parts.1 in
      and_from (nat_le (at ys + (e.size - 1)) r.last) (nat_le (at ys + (e.size - 1)) e.highest)
      (le-leb (at ys + (e.size - 1)) r.last (omega (arith, last, low))) (le-leb (at ys + (e.size - 1)) e.highest (omega (arith, highest, low)))

  pub near_in : first_place_in r xs e ≡ first_place_in r ys e
  near_in = elim (cases_Bool (ends_by r e (at ys))) [
    | inl ends ↦
        let low = up in
        let down : at xs ≤ at ys = (least_spot r.first xs e pos).least (at ys) (near_spot (at ys) (least_spot r.first ys e pos).free ends) in
        let same : at xs ≡ at ys = omega (arith, low, down) in
        ap (λ a. cond (ends_by r e a) (Some a) None) same
    | inr off ↦
        let beyond : ends_by r e (at xs) ≡ false = false_from_ne_true (ends_by r e (at xs)) (λ ends. both_ways (ends_by r e (at ys)) off (ends_down ends)) in
        ap (λ b. cond b (Some (at xs)) None) beyond ∙ sym (ap (λ b. cond b (Some (at ys)) None) off)
  ]

pub near_place : (ranges xs ys : List Range) (e : Extent) → 0 < e.alignment → ((r : Range) → Contains ranges r → AreNear r xs ys) → first_place ranges xs e ≡ first_place ranges ys e
near_place [] xs ys e pos near = refl
near_place (r ∷ ranges) xs ys e pos near =
    ap (λ o. else_at o (first_place ranges xs e)) (near_in r xs ys e pos (near r (in_head r ranges)))
    ∙ ap (else_at (first_place_in r ys e)) (near_place ranges xs ys e pos (λ t listed. near t (in_tail r ranges t listed)))
