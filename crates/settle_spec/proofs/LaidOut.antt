-- What is laid out from 0 on, and where it ends.
use Rattle.std.proofs.Common.{◌≡◌, ℕ, ◌+◌, ◌≤◌, max, inl, inr, List, [], ◌∷◌, map, arith, subst, Option, None, Some}
use Rattle.std.specs.List.{Contains, fold}
use Rattle.pci_spec.specs.Decoded.{Range}
use Rattle.pci_spec.proofs.Members.{in_nil, in_head, in_tail, in_cons_cases}
use Rattle.plan_spec.specs.Plan.{greatest}
use Rattle.plan_spec.specs.Place.{range_from}
use Rattle.settle_spec.specs.FirstPlace.{Extent, first_spot}
use Rattle.settle_spec.specs.Spares.{with_spare}
use Rattle.settle_spec.specs.Items.{laid_out, end_of}

-- what is taken stays so
pub laid_keeps : (taken : List Range) (extents : List Extent) (t : Range) → Contains taken t → Contains (laid_out taken extents) t
laid_keeps taken [] t listed = listed
laid_keeps taken (e ∷ extents) t listed =
    laid_keeps (range_from (first_spot 0 taken e) e.size ∷ taken) extents t (in_tail (range_from (first_spot 0 taken e) e.size) taken t listed)

fold_max : (a : ℕ) (xs : List ℕ) → fold max a xs ≡ max a (fold max 0 xs)
fold_max a [] = omega arith
fold_max a (x ∷ xs) =
    let more = fold_max (max a x) xs in
    let own = fold_max (max 0 x) xs in
    omega (arith, more, own)

pub greatest_more : (x : ℕ) (xs : List ℕ) → greatest (x ∷ xs) ≡ max x (greatest xs)
greatest_more x xs = let more = fold_max (max 0 x) xs in omega (arith, more)

-- what is laid out with a spare ends no earlier
pub laid_before : (taken : List Range) (extents : List Extent) (spare : Option Extent)
    → (t : Range) → Contains (laid_out taken extents) t → Contains (laid_out taken (with_spare spare extents)) t
laid_before taken extents None t listed = listed
laid_before taken [] (Some e) t listed = laid_keeps taken (e ∷ []) t listed
laid_before taken (x ∷ extents) (Some e) t listed = laid_before (range_from (first_spot 0 taken x) x.size ∷ taken) extents (Some e) t listed

-- no address is behind the end
pub end_behind : (taken : List Range) (t : Range) → Contains taken t → t.last + 1 ≤ end_of taken
end_behind [] t listed = absurd (in_nil t listed)
end_behind (u ∷ taken) t listed =
    let more = greatest_more (u.last + 1) (map (λ (t : Range). t.last + 1) taken) in
    elim (in_cons_cases u taken t listed) [
      | inl here ↦ subst (λ (x : Range). x.last + 1 ≤ end_of (u ∷ taken)) here (omega (arith, more))
      | inr later ↦ (let rest : t.last + 1 ≤ end_of taken = end_behind taken t later in omega (arith, more, rest))
    ]

-- and where each of some ranges is among others, the end of these is no earlier
pub end_more : (taken more : List Range) → ((t : Range) → Contains taken t → Contains more t) → end_of taken ≤ end_of more
end_more [] more in_more = omega arith
end_more (u ∷ taken) more in_more =
    let own = end_behind more u (in_more u (in_head u taken)) in
    let rest = end_more taken more (λ t listed. in_more t (in_tail u taken t listed)) in
    let first = greatest_more (u.last + 1) (map (λ (t : Range). t.last + 1) taken) in
    omega (arith, own, rest, first)
