-- When more is taken, what needs no less has no place that wasn't there before.
use Rattle.std.proofs.Common.{◌≡◌, ℕ, ◌+◌, ◌-◌, ◌%◌, ◌<◌, ◌≤◌, inl, inr, List, arith, sym, subst, refl, ◌∙◌, true, None}
use Rattle.std.specs.Bool.{IsTrue, nat_le}
use Rattle.std.proofs.lemmas.Bool.{true≢false, and_parts, and_from, leb-true, le-leb, false_from_ne_true}
use Rattle.pci_spec.specs.Decoded.{Range}
use Rattle.settle_spec.specs.FirstPlace.{Extent, is_spot, ends_by, is_place, first_place_in, HasNoPlace, IsFirstPlaceIn}
use Rattle.settle_spec.specs.PlacingLaws.{TakesMore, NeedsNoLess}
use Rattle.settle_spec.proofs.FirstSpot.{spot_gives, spot_from}
use Rattle.settle_spec.proofs.FirstPlace.{in_none, in_by_none}

pub same_extent : (e : Extent) → NeedsNoLess e e
same_extent e = record { alignment = refl; size = omega arith; highest = omega arith }

pub less_spot : (low : ℕ) (taken more : List Range) (e d : Extent) (b : ℕ) → TakesMore taken more → NeedsNoLess e d → IsTrue (is_spot low more d b) → IsTrue (is_spot low taken e b)
less_spot low taken more e d b stays needs spot =
    let free = spot_gives low more d b spot in
    let size = needs.size in
    spot_from low taken e b (record {
      multiple = subst (λ n. b % n ≡ 0) needs.alignment free.multiple;
      from = free.from;
      free = λ t listed. elim (free.free t (stays t listed)) [
        | inl under ↦ inl (omega (arith, under, size))
        | inr over ↦ inr over
      ];
    })

less_ends : (r : Range) (e d : Extent) (b : ℕ) → NeedsNoLess e d → ends_by r d b ≡ true → ends_by r e b ≡ true
less_ends r e d b needs ends =
    let size = needs.size in
    let parts = and_parts (nat_le (b + (d.size - 1)) r.last) (nat_le (b + (d.size - 1)) d.highest) ends in
    let last = leb-true (b + (d.size - 1)) r.last parts.0 in
    let highest = leb-true (b + (d.size - 1)) d.highest parts.1 in
    let no_lower = needs.highest in
    and_from (nat_le (b + (e.size - 1)) r.last) (nat_le (b + (e.size - 1)) e.highest) (le-leb (b + (e.size - 1)) r.last (omega (arith, last, size)))
    (le-leb (b + (e.size - 1)) e.highest (omega (arith, highest, no_lower, size)))

less_place : (r : Range) (taken more : List Range) (e d : Extent) (b : ℕ) → TakesMore taken more → NeedsNoLess e d → IsTrue (is_place r more d b) → IsTrue (is_place r taken e b)
less_place r taken more e d b stays needs place =
    let parts = and_parts (is_spot r.first more d b) (ends_by r d b) place in
    and_from (is_spot r.first taken e b) (ends_by r e b) (less_spot r.first taken more e d b stays needs parts.0) (less_ends r e d b needs parts.1)

pub none_before : (r : Range) (taken more : List Range) (e d : Extent) (a : ℕ) → TakesMore taken more → NeedsNoLess e d → IsFirstPlaceIn r taken e a → (b : ℕ) → IsTrue (is_place r more d b) → a ≤ b
none_before r taken more e d a stays needs first b place = first.least b (less_place r taken more e d b stays needs place)

pub none_stays : (r : Range) (taken more : List Range) (e d : Extent) → TakesMore taken more → NeedsNoLess e d → HasNoPlace r taken e → HasNoPlace r more d
none_stays r taken more e d stays needs none b = false_from_ne_true (is_place r more d b) (λ place. true≢false (sym (less_place r taken more e d b stays needs place) ∙ none b))

pub none_in : (r : Range) (taken more : List Range) (e d : Extent) → 0 < e.alignment → TakesMore taken more → NeedsNoLess e d → first_place_in r taken e ≡ None → first_place_in r more d ≡ None
none_in r taken more e d pos stays needs none =
    in_by_none r more d (subst (λ n. 0 < n) (sym needs.alignment) pos) (none_stays r taken more e d stays needs (in_none r taken e pos none))
