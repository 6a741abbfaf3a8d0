-- The first place in the ranges of a list that a root has: what is left of it.
use Rattle.std.proofs.Common.{◌≡◌, ℕ, zero, suc, ◌+◌, ◌<◌, ◌≤◌, List, [], ◌∷◌, map, length, drop, cond, get_or, arith, ap, sym, ◌∙◌, refl, inl, inr, Bool, Option, Some, None}
use Rattle.std.specs.List.{filter}
use Rattle.std.proofs.lemmas.Bool.{cases_Bool}
use Rattle.pci_spec.specs.Decoded.{Range}
use Rattle.settle_spec.specs.FirstPlace.{Extent, first_place, first_place_in, else_at}
use Rattle.settle_spec.specs.Lists as lists
use Rattle.pci_base.specs.declared.range.RootRange.{RootRange}
use Rattle.pci_first_fit.specs.Lists.{root_range_value}
use Rattle.pci_first_fit.proofs.Walks.{no_range, left_next, left_none}
use Rattle.pci_grow.specs.Lists.{ranges_had, place_had}

module _ (bus : ℕ) (taken : List Range) (e : Extent) where
  abbrev pub place_among : List lists.RootRange → Option ℕ
  place_among list = first_place (ranges_had bus list) taken e

  abbrev kept_if : lists.RootRange → List lists.RootRange → Bool → Option ℕ
  kept_if one list b = first_place (map (λ (r : lists.RootRange). r.range) (cond b (one ∷ filter (λ (r : lists.RootRange). lists.is_had_by r.root bus) list) (filter (λ (r : lists.RootRange). lists.is_had_by r.root bus) list))) taken e

  -- that of one, or else of those behind it
  place_cons : (one : lists.RootRange) (list : List lists.RootRange) → place_among (one ∷ list) ≡ else_at (place_had bus taken e one) (place_among list)
  place_cons one list = elim (cases_Bool (lists.is_had_by one.root bus)) [
    | inl has ↦ ap (kept_if one list) has ∙ sym (ap (λ b. else_at (cond b (first_place_in one.range taken e) None) (place_among list)) has)
    | inr not ↦ ap (kept_if one list) not ∙ sym (ap (λ b. else_at (cond b (first_place_in one.range taken e) None) (place_among list)) not)
  ]

  pub place_next : (xs : List RootRange) (n : ℕ) (all : Option ℕ) → n < length xs → place_among (drop n (map root_range_value xs)) ≡ all
      → place_had bus taken e (root_range_value (get_or xs n no_range)) ≡ None → place_among (drop (n + 1) (map root_range_value xs)) ≡ all
  place_next xs n all within is none =
      sym (ap (λ o. else_at o (place_among (drop (n + 1) (map root_range_value xs)))) none)
      ∙ sym (place_cons (root_range_value (get_or xs n no_range)) (drop (n + 1) (map root_range_value xs)))
      ∙ sym (ap place_among (left_next root_range_value xs n no_range within)) ∙ is

  pub place_here : (xs : List RootRange) (n a : ℕ) (all : Option ℕ) → n < length xs → place_among (drop n (map root_range_value xs)) ≡ all
      → place_had bus taken e (root_range_value (get_or xs n no_range)) ≡ Some a → Some a ≡ all
  place_here xs n a all within is some =
      sym (ap (λ o. else_at o (place_among (drop (n + 1) (map root_range_value xs)))) some)
      ∙ sym (place_cons (root_range_value (get_or xs n no_range)) (drop (n + 1) (map root_range_value xs)))
      ∙ sym (ap place_among (left_next root_range_value xs n no_range within)) ∙ is

  pub place_none : (xs : List RootRange) (n : ℕ) (all : Option ℕ) → length xs ≤ n → place_among (drop n (map root_range_value xs)) ≡ all → None ≡ all
  place_none xs n all past is = sym (ap place_among (left_none root_range_value xs n past)) ∙ is

-- past the end of a list nothing is left
pub nothing_left : {X : Type 0} (xs : List X) (n : ℕ) → length xs ≤ n → drop n xs ≡ []
nothing_left [] zero past = refl
nothing_left [] (suc n) past = refl
nothing_left (x ∷ xs) zero past = absurd (let no : ⊥ = omega (arith, past) in no)
nothing_left (x ∷ xs) (suc n) past = nothing_left xs n (omega (arith, past))
