-- First places hang on which addresses are taken, and not on the order in which they are listed.
use Rattle.std.proofs.Common.{◌≡◌, cond, ℕ, ◌<◌, inl, inr, List, [], ◌∷◌, ap, subst, ◌∙◌, refl, Option, None, Some}
use Rattle.std.specs.Bool.{IsTrue}
use Rattle.std.specs.List.{Contains}
use Rattle.pci_spec.specs.Decoded.{Range}
use Rattle.pci_spec.proofs.Members.{in_head, in_tail, in_cons_cases}
use Rattle.settle_spec.specs.FirstPlace.{Extent, is_spot, ends_by, first_spot, first_place_in, first_place, else_at}
use Rattle.settle_spec.specs.Items.{PlacingItem, Placing, and_placed, place_next, place_all, taken_by}
use Rattle.settle_spec.proofs.FirstSpot.{spot_gives, spot_from, least_spot, only_least}

-- the same ranges are in both lists
pub record HaveSame (xs ys : List Range) : Type 0 where
  pub to : (t : Range) → Contains xs t → Contains ys t
  pub back : (t : Range) → Contains ys t → Contains xs t

pub same_swap : (xs ys : List Range) → HaveSame xs ys → HaveSame ys xs
same_swap xs ys same = record { to = same.back; back = same.to }

pub same_cons : (t : Range) (xs ys : List Range) → HaveSame xs ys → HaveSame (t ∷ xs) (t ∷ ys)
same_cons t xs ys same = record {
  to = λ u listed. elim (in_cons_cases t xs u listed) [ inl here ↦ subst (λ x. Contains (t ∷ ys) x) here (in_head t ys) | inr later ↦ in_tail t ys u (same.to u later) ];
  back = λ u listed. elim (in_cons_cases t ys u listed) [ inl here ↦ subst (λ x. Contains (t ∷ xs) x) here (in_head t xs) | inr later ↦ in_tail t xs u (same.back u later) ];
}

same_spot : (low : ℕ) (xs ys : List Range) (e : Extent) (b : ℕ) → HaveSame xs ys → IsTrue (is_spot low xs e b) → IsTrue (is_spot low ys e b)
same_spot low xs ys e b same spot =
    let free = spot_gives low xs e b spot in
    spot_from low ys e b (record { multiple = free.multiple; from = free.from; free = λ t listed. free.free t (same.back t listed) })

pub same_first_spot : (low : ℕ) (xs ys : List Range) (e : Extent) → 0 < e.alignment → HaveSame xs ys → first_spot low xs e ≡ first_spot low ys e
same_first_spot low xs ys e pos same =
    let first = least_spot low ys e pos in
    only_least low xs e (first_spot low ys e) pos (record {
      free = same_spot low ys xs e (first_spot low ys e) (same_swap xs ys same) first.free;
      least = λ b spot. first.least b (same_spot low xs ys e b same spot);
    })

abbrev in_range : Range → Extent → ℕ → Option ℕ
in_range r e a = cond (ends_by r e a) (Some a) None

pub same_first_place : (ranges xs ys : List Range) (e : Extent) → 0 < e.alignment → HaveSame xs ys → first_place ranges xs e ≡ first_place ranges ys e
same_first_place [] xs ys e pos same = refl
same_first_place (r ∷ ranges) xs ys e pos same =
    ap (λ o. else_at o (first_place ranges xs e)) (ap (in_range r e) (same_first_spot r.first xs ys e pos same))
    ∙ ap (else_at (first_place_in r ys e)) (same_first_place ranges xs ys e pos same)

next_by : (i : PlacingItem) (o : Option ℕ) (f g : ℕ → Placing) → ((a : ℕ) → f a ≡ g a) → place_next i o f ≡ place_next i o g
next_by i None f g same = refl
next_by i (Some a) f g same = ap (and_placed i a) (same a)

pub same_places : (ranges : PlacingItem → List Range) (items : List PlacingItem) (xs ys : List Range)
    → ((i : PlacingItem) → Contains items i → 0 < i.extent.alignment) → HaveSame xs ys → place_all ranges xs items ≡ place_all ranges ys items
same_places ranges [] xs ys pos same = refl
same_places ranges (i ∷ items) xs ys pos same =
    ap (λ o. place_next i o (λ a. place_all ranges (taken_by i a ∷ xs) items)) (same_first_place (ranges i) xs ys i.extent (pos i (in_head i items)) same)
    ∙ next_by i (first_place (ranges i) ys i.extent) (λ a. place_all ranges (taken_by i a ∷ xs) items) (λ a. place_all ranges (taken_by i a ∷ ys) items)
    (λ a. same_places ranges items (taken_by i a ∷ xs) (taken_by i a ∷ ys) (λ j listed. pos j (in_tail i items j listed)) (same_cons (taken_by i a) xs ys same))
