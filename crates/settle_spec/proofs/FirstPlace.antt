-- The first place in a list of ranges, by each range.
use Rattle.std.proofs.Common.{◌≡◌, ◌↔◌, ℕ, ◌+◌, ◌-◌, ◌<◌, ◌≤◌, inl, inr, List, [], ◌∷◌, cond, arith, ap, sym, subst, ◌∙◌, refl, true, false, Bool, Option, None, Some}
use Rattle.std.specs.Bool.{IsTrue, nat_le}
use Rattle.std.specs.List.{Contains}
use Rattle.std.specs.Option.{is_some, unwrap_or}
use Rattle.std.proofs.lemmas.Bool.{false≢true, true≢false, and_parts, and_from, leb-true, le-leb, false_from_ne_true}
use Rattle.pci_spec.specs.Decoded.{Range}
use Rattle.pci_spec.proofs.Members.{in_nil, in_head, in_tail, in_cons_cases}
use Rattle.settle_spec.specs.FirstPlace.{Extent, is_spot, ends_by, is_place, first_spot, first_place_in, first_place, else_at, HasNoPlace, IsFirstPlaceIn, IsFirstPlace}
use Rattle.settle_spec.proofs.FirstSpot.{least_spot}

-- ---- one range

-- what ends by an address does so from a lower place too
ends_below : (r : Range) (e : Extent) (a b : ℕ) → a ≤ b → ends_by r e b ≡ true → ends_by r e a ≡ true
ends_below r e a b below ends =
    let parts = and_parts (nat_le (b + (e.size - 1)) r.last) (nat_le (b + (e.size - 1)) e.highest) ends in
    let last = leb-true (b + (e.size - 1)) r.last parts.0 in
    let highest = leb-true (b + (e.size - 1)) e.highest parts.1 in
    and_from (nat_le (a + (e.size - 1)) r.last) (nat_le (a + (e.size - 1)) e.highest) (le-leb (a + (e.size - 1)) r.last (omega (arith, last, below)))
    (le-leb (a + (e.size - 1)) e.highest (omega (arith, highest, below)))

-- a choice that gives something took it
taken_if : (b : Bool) (s a : ℕ) → cond b (Some s) None ≡ Some a → (b ≡ true) × (s ≡ a)
taken_if true s a is = (refl, ap (λ o. unwrap_or o 0) is)
taken_if false s a is = absurd (false≢true (ap is_some is))

left_if : (b : Bool) (s : ℕ) → cond b (Some s) None ≡ None → b ≡ false
left_if true s is = absurd (true≢false (ap is_some is))
left_if false s is = refl

module _ (r : Range) (taken : List Range) (e : Extent) (pos : 0 < e.alignment) where
  abbrev spot : ℕ
  spot = first_spot r.first taken e

  pub in_is : (a : ℕ) → first_place_in r taken e ≡ Some a → IsFirstPlaceIn r taken e a
  in_is a found =
      let is = taken_if (ends_by r e spot) spot a found in
      let least = least_spot r.first taken e pos in
      subst (IsFirstPlaceIn r taken e) is.1 (record {
        place = and_from (is_spot r.first taken e spot) (ends_by r e spot) least.free is.0;
        least = λ b place. least.least b (and_parts (is_spot r.first taken e b) (ends_by r e b) place).0;
      })

  pub in_none : first_place_in r taken e ≡ None → HasNoPlace r taken e
  in_none none b = false_from_ne_true (is_place r taken e b) (λ place.
      let parts = and_parts (is_spot r.first taken e b) (ends_by r e b) place in
      let low = (least_spot r.first taken e pos).least b parts.0 in
      true≢false (sym (ends_below r e spot b low parts.1) ∙ left_if (ends_by r e spot) spot none))

  pub in_by : (a : ℕ) → IsFirstPlaceIn r taken e a → first_place_in r taken e ≡ Some a
  in_by a is =
      let parts = and_parts (is_spot r.first taken e a) (ends_by r e a) is.place in
      let least = least_spot r.first taken e pos in
      let low = least.least a parts.0 in
      let ends = ends_below r e spot a low parts.1 in
      let up = is.least spot (and_from (is_spot r.first taken e spot) (ends_by r e spot) least.free ends) in
      let same : spot ≡ a = omega (arith, low, up) in
      ap (λ b. cond b (Some spot) None) ends ∙ ap Some same

  pub in_by_none : HasNoPlace r taken e → first_place_in r taken e ≡ None
  in_by_none none =
      let least = least_spot r.first taken e pos in
      let not : ends_by r e spot ≡ false = false_from_ne_true (ends_by r e spot) (λ ends.
      true≢false (sym (and_from (is_spot r.first taken e spot) (ends_by r e spot) least.free ends) ∙ none spot)) in
      ap (λ b. cond b (Some spot) None) not

-- ---- all ranges

to_first : (ranges taken : List Range) (e : Extent) (a : ℕ) → 0 < e.alignment → first_place ranges taken e ≡ Some a → IsFirstPlace ranges taken e a
to_first [] taken e a pos found = absurd (false≢true (ap is_some found))
to_first (r ∷ ranges) taken e a pos found = by (first_place_in r taken e) refl (to_first ranges taken e a pos)
  where
    by : (o : Option ℕ) → first_place_in r taken e ≡ o → (first_place ranges taken e ≡ Some a → IsFirstPlace ranges taken e a) → IsFirstPlace (r ∷ ranges) taken e a
    by None is rest = inr (in_none r taken e pos is, rest (ap (λ o. else_at o (first_place ranges taken e)) (sym is) ∙ found))
    by (Some b) is rest = inl (in_is r taken e pos a (is ∙ ap (λ o. else_at o (first_place ranges taken e)) (sym is) ∙ found))

from_first : (ranges taken : List Range) (e : Extent) (a : ℕ) → 0 < e.alignment → IsFirstPlace ranges taken e a → first_place ranges taken e ≡ Some a
from_first [] taken e a pos is = absurd is
from_first (r ∷ ranges) taken e a pos (inl here) = ap (λ o. else_at o (first_place ranges taken e)) (in_by r taken e pos a here)
from_first (r ∷ ranges) taken e a pos (inr (none, later)) = ap (λ o. else_at o (first_place ranges taken e)) (in_by_none r taken e pos none) ∙ from_first ranges taken e a pos later

pub first_is : (ranges taken : List Range) (e : Extent) (a : ℕ) → 0 < e.alignment → (first_place ranges taken e ≡ Some a) ↔ IsFirstPlace ranges taken e a
first_is ranges taken e a pos = (to_first ranges taken e a pos, from_first ranges taken e a pos)

to_none : (ranges taken : List Range) (e : Extent) → 0 < e.alignment → first_place ranges taken e ≡ None → (r : Range) → Contains ranges r → HasNoPlace r taken e
to_none [] taken e pos none r listed = absurd (in_nil r listed)
to_none (q ∷ ranges) taken e pos none r listed = by (first_place_in q taken e) refl (to_none ranges taken e pos)
  where
    by : (o : Option ℕ) → first_place_in q taken e ≡ o → (first_place ranges taken e ≡ None → (r : Range) → Contains ranges r → HasNoPlace r taken e) → HasNoPlace r taken e
    by None is rest = elim (in_cons_cases q ranges r listed) [
      | inl here ↦ subst (λ x. HasNoPlace x taken e) here (in_none q taken e pos is)
      | inr later ↦ rest (ap (λ o. else_at o (first_place ranges taken e)) (sym is) ∙ none) r later
    ]
    by (Some b) is rest = absurd (true≢false (ap is_some (ap (λ o. else_at o (first_place ranges taken e)) (sym is) ∙ none)))

from_none : (ranges taken : List Range) (e : Extent) → 0 < e.alignment → ((r : Range) → Contains ranges r → HasNoPlace r taken e) → first_place ranges taken e ≡ None
from_none [] taken e pos none = refl
from_none (q ∷ ranges) taken e pos none =
    ap (λ o. else_at o (first_place ranges taken e)) (in_by_none q taken e pos (none q (in_head q ranges)))
    ∙ from_none ranges taken e pos (λ r listed. none r (in_tail q ranges r listed))

pub none_is : (ranges taken : List Range) (e : Extent) → 0 < e.alignment → (first_place ranges taken e ≡ None) ↔ ((r : Range) → Contains ranges r → HasNoPlace r taken e)
none_is ranges taken e pos = (to_none ranges taken e pos, from_none ranges taken e pos)

-- a first place is one of some range
pub some_place : (ranges taken : List Range) (e : Extent) (a : ℕ) → IsFirstPlace ranges taken e a → (r : Range) × Contains ranges r × IsTrue (is_place r taken e a)
some_place [] taken e a is = absurd is
some_place (r ∷ ranges) taken e a (inl here) = (r, in_head r ranges, here.place)
some_place (r ∷ ranges) taken e a (inr (none, later)) =
    let rest : (q : Range) × Contains ranges q × IsTrue (is_place q taken e a) = some_place ranges taken e a later in
    (rest.0, in_tail r ranges rest.0 rest.1, rest.2)
