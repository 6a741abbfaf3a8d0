-- Items of falling alignments that are placed one by one need no more room than the sum of what is set aside for each.
use Rattle.std.proofs.Common.{◌≡◌, ℕ, ◌+◌, ◌-◌, ◌%◌, ◌<◌, ◌≤◌, ◌⊎◌, inl, inr, List, [], ◌∷◌, ◌++◌, map, cond, true, refl, arith, ◌∙◌, ap, subst, Some, None}
use Rattle.std.specs.Bool.{nat_le}
use Rattle.std.specs.List.{Contains, AllPairs, sum_by}
use Rattle.std.proofs.lemmas.Bool.{and_from, le-leb}
use Rattle.std.proofs.lemmas.List.Sums.{sum_by-cons}
use Rattle.pci_spec.specs.Decoded.{Range}
use Rattle.pci_spec.proofs.Members.{in_head, in_tail, in_cons_cases, in_map_to, IsMade, pairs_head, pairs_tail}
use Rattle.plan_spec.specs.Place.{range_from}
use Rattle.plan_spec.specs.Planning.Layout.{IsInside}
use Rattle.plan_spec.specs.Planning.Placing.{IsPower}
use Rattle.plan_spec.proofs.Planning.Placement.{mod_of_multiple, multiple_of_mod, multiple_add, power_multiple, power_pos}
use Rattle.plan_spec.proofs.Planning.Tallies.{greatest_least}
use Rattle.settle_spec.specs.FirstPlace.{Extent, ends_by, first_spot, first_place, else_at}
use Rattle.settle_spec.specs.Items.{PlacingItem, Placing, AllPlaced, Lacks, and_placed, place_next, place_all, are_placed, taken_by, laid_out, end_of}
use Rattle.settle_spec.proofs.FirstSpot.{spot_from, spot_gives, least_spot}
use Rattle.settle_laws.proofs.Powers.{multiple_below}

-- an item is as aligned as another or less
abbrev pub IsNoMoreAligned : PlacingItem → PlacingItem → Type 0
IsNoMoreAligned i j = j.extent.alignment ≤ i.extent.alignment

-- what is set aside for an item is a power of two that is no less than its size and its alignment
pub record IsSetAside (e : Extent) (size : ℕ) : Type 0 where
  pub power : IsPower size
  pub aligned : IsPower e.alignment
  pub even : e.alignment ≤ size
  pub holds : e.size ≤ size

-- the ranges of an item begin with one, all of whose addresses it can have
pub record HasFirst (ranges : PlacingItem → List Range) (r : Range) (i : PlacingItem) : Type 0 where
  pub more : List Range
  pub begins : ranges i ≡ r ∷ more
  pub below : r.last ≤ i.extent.highest

module _ (aside : PlacingItem → ℕ) where
  -- all items are set aside, and a start is a multiple of their alignments
  pub record AreSetAside (start : ℕ) (items : List PlacingItem) : Type 0 where
    pub each : (i : PlacingItem) → Contains items i → IsSetAside i.extent (aside i)
    pub even : (i : PlacingItem) → Contains items i → start % i.extent.alignment ≡ 0
    pub falling : AllPairs IsNoMoreAligned items

  rest_aside : (start : ℕ) (i : PlacingItem) (items : List PlacingItem) → AreSetAside start (i ∷ items) → AreSetAside (start + aside i) items
  rest_aside start i items h = record {
    each = λ j listed. h.each j (in_tail i items j listed);
    even = λ j listed.
        let own = h.each i (in_head i items) in
        let other = h.each j (in_tail i items j listed) in
        let less = pairs_head IsNoMoreAligned i items j h.falling listed in
        let more = multiple_below (aside i) i.extent.alignment j.extent.alignment own.aligned other.aligned less
        (mod_of_multiple (aside i) i.extent.alignment (power_multiple (aside i) i.extent.alignment own.power own.aligned own.even)) in
        mod_of_multiple (start + aside i) j.extent.alignment
        (multiple_add start (aside i) j.extent.alignment (multiple_of_mod start j.extent.alignment (h.even j (in_tail i items j listed))) (multiple_of_mod (aside i) j.extent.alignment more));
    falling = pairs_tail IsNoMoreAligned i items h.falling;
  }

  -- ---- laid out

  spot_below : (low start : ℕ) (taken : List Range) (i : PlacingItem) (items : List PlacingItem) → AreSetAside start (i ∷ items) → low ≤ start
      → ((t : Range) → Contains taken t → (t.last < start) ⊎ (start + (i.extent.size - 1) < t.first)) → first_spot low taken i.extent ≤ start
  spot_below low start taken i items h from off =
      let own = h.each i (in_head i items) in
      (least_spot low taken i.extent (power_pos i.extent.alignment own.aligned)).least start
      (spot_from low taken i.extent start record {
        multiple = h.even i (in_head i items);
        from = from;
        free = λ t listed. elim (off t listed) [ inl under ↦ inr under | inr over ↦ inl over ];
      })

  pub laid_ends : (start : ℕ) (taken : List Range) (items : List PlacingItem) → AreSetAside start items → ((t : Range) → Contains taken t → t.last < start)
      → end_of (laid_out taken (map (λ (i : PlacingItem). i.extent) items)) ≤ start + sum_by aside items
  laid_ends start taken [] h below =
      let end = greatest_least start (map (λ (t : Range). t.last + 1) taken) (λ x has.
      let made : IsMade (λ (t : Range). t.last + 1) taken x = in_map_to (λ (t : Range). t.last + 1) taken x has in
      let under = below made.from made.has in
      let is = made.is in
      omega (arith, under, is)) in
      omega (arith, end)
  laid_ends start taken (i ∷ items) h below =
      let a = first_spot 0 taken i.extent in
      let low = spot_below 0 start taken i items h (omega arith) (λ t listed. inl (below t listed)) in
      let own = h.each i (in_head i items) in
      let holds = own.holds in
      let some = power_pos (aside i) own.power in
      let here : Range = range_from a i.extent.size in
      let last : a + (i.extent.size - 1) < start + aside i = omega (arith, low, holds, some) in
      let rest = laid_ends (start + aside i) (here ∷ taken) items (rest_aside start i items h)
      (λ t listed. elim (in_cons_cases here taken t listed) [
        | inl is ↦ subst (λ (u : Range). u.last < start + aside i) is last
        | inr later ↦ (let under = below t later in omega (arith, under))
      ]) in
      let step = sum_by-cons aside i items in
      omega (arith, rest, step)

  -- ---- placed in the first of some ranges

  placed_too : (i : PlacingItem) (a : ℕ) (p : Placing) → are_placed (and_placed i a p) ≡ are_placed p
  placed_too i a (AllPlaced placed) = refl
  placed_too i a (Lacks j) = refl

  module _ (ranges : PlacingItem → List Range) (r : Range) (others : List PlacingItem) where
    pub all_in_first : (start : ℕ) (taken : List Range) (items : List PlacingItem) → AreSetAside start items → r.first ≤ start → start + sum_by aside items ≤ r.last + 1
        → ((i : PlacingItem) → Contains items i → HasFirst ranges r i)
        → ((t : Range) → Contains taken t → (t.last < start) ⊎ (r.last < t.first))
        → ((later : List Range) → ((t : Range) → Contains later t → Contains taken t ⊎ IsInside t r) → are_placed (place_all ranges later others) ≡ true)
        → are_placed (place_all ranges taken (items ++ others)) ≡ true
    all_in_first start taken [] h from room has off rest = rest taken (λ t listed. inl listed)
    all_in_first start taken (i ∷ items) h from room has off rest =
        let e = i.extent in
        let own = h.each i (in_head i items) in
        let holds = own.holds in
        let some = power_pos (aside i) own.power in
        let step = sum_by-cons aside i items in
        let a = first_spot r.first taken e in
        let low = spot_below r.first start taken i items h from (λ t listed. elim (off t listed) [
          | inl under ↦ inl under
          | inr over ↦ inr (omega (arith, over, room, step, holds, some))
        ]) in
        let up = (spot_gives r.first taken e a (least_spot r.first taken e (power_pos e.alignment own.aligned)).free).from in
        let first = has i (in_head i items) in
        let ends : ends_by r e a ≡ true =
        let highest = first.below in
        and_from (nat_le (a + (e.size - 1)) r.last) (nat_le (a + (e.size - 1)) e.highest)
        (le-leb (a + (e.size - 1)) r.last (omega (arith, low, holds, some, room, step)))
        (le-leb (a + (e.size - 1)) e.highest (omega (arith, low, holds, some, room, step, highest))) in
        let place : first_place (ranges i) taken e ≡ Some a =
        ap (λ rs. first_place rs taken e) first.begins ∙ ap (λ b. else_at (cond b (Some a) None) (first_place first.more taken e)) ends in
        let here : Range = taken_by i a in
        let last : a + (e.size - 1) < start + aside i = omega (arith, low, holds, some) in
        let inside : IsInside here r = (up, omega (arith, low, holds, some, room, step)) in
        ap (λ o. are_placed (place_next i o (λ b. place_all ranges (taken_by i b ∷ taken) (items ++ others)))) place
        ∙ placed_too i a (place_all ranges (here ∷ taken) (items ++ others))
        ∙ all_in_first (start + aside i) (here ∷ taken) items (rest_aside start i items h) (omega (arith, from)) (omega (arith, room, step))
        (λ j listed. has j (in_tail i items j listed))
        (λ t listed. elim (in_cons_cases here taken t listed) [
          | inl is ↦ inl (subst (λ (u : Range). u.last < start + aside i) is last)
          | inr later ↦ elim (off t later) [ inl under ↦ inl (omega (arith, under)) | inr over ↦ inr over ]
        ])
        (λ later lie. rest later (λ t listed. elim (lie t listed) [
          | inr in_r ↦ inr in_r
          | inl was ↦ elim (in_cons_cases here taken t was) [
            | inl is ↦ inr (subst (λ (u : Range). IsInside u r) is inside)
            | inr before ↦ inl before
          ]
        ]))
