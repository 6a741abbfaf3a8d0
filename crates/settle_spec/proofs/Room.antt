-- What is laid out from 0 on is placed in the same way from any multiple of its alignments on.
use Rattle.std.proofs.Common.{◌≡◌, ℕ, ◌+◌, ◌-◌, ◌*◌, ◌%◌, ◌<◌, ◌≤◌, inl, inr, List, [], ◌∷◌, map, cond, arith, ap, sym, subst, ◌∙◌, refl, true, Option, None, Some}
use Rattle.std.specs.Bool.{IsTrue, nat_le}
use Rattle.std.specs.List.{Contains}
use Rattle.std.proofs.lemmas.Bool.{and_from, le-leb, cases_lt}
use Rattle.pci_spec.specs.Decoded.{Range}
use Rattle.pci_spec.proofs.Members.{in_head, in_tail, in_map_to, in_map_from, IsMade}
use Rattle.plan_spec.specs.Plan.{raised_to}
use Rattle.plan_spec.specs.Place.{range_from}
use Rattle.plan_spec.proofs.Planning.Placement.{IsMultiple, mod_of_multiple, multiple_of_mod, multiple_add}
use Rattle.plan_spec.proofs.Planning.Room.{raised}
use Rattle.settle_spec.specs.FirstPlace.{Extent, is_spot, ends_by, first_spot, first_place, else_at}
use Rattle.settle_spec.specs.Spares.{with_spare}
use Rattle.settle_spec.specs.Items.{PlacingItem, Placing, AllPlaced, Lacks, and_placed, place_next, place_all, are_placed, taken_by, laid_out, end_of}
use Rattle.settle_spec.specs.WindowLaws.{CanBeIn}
use Rattle.settle_spec.proofs.FirstSpot.{IsApart, spot_gives, spot_from, least_spot, only_least}
use Rattle.settle_spec.proofs.LaidOut.{laid_keeps, laid_before, end_behind, end_more}

multiple_less : (a b c : ℕ) → a ≤ b → IsMultiple a c → IsMultiple b c → IsMultiple (b - a) c
multiple_less a b c up (r, f) (q, e) = elim (cases_lt q r) [
  | inl less ↦
      let s : r ≡ q + (r - q) = omega (arith, less) in
      let f2 : a ≡ (q + (r - q)) * c = subst (λ n. a ≡ n * c) s f in
      (0, omega (arith, e, f2, up))
  | inr fine ↦
      let s : q ≡ r + (q - r) = omega (arith, fine) in
      let e2 : b ≡ (r + (q - r)) * c = subst (λ n. b ≡ n * c) s e in
      (q - r, omega (arith, e2, f))
]

-- ---- a start further on

abbrev further : ℕ → Range → Range
further a t = record { first = a + t.first; last = a + t.last }

module _ (a : ℕ) (taken : List Range) (e : Extent) (even : a % e.alignment ≡ 0) where
  apart_on : (x : ℕ) (t : Range) → IsApart e.size x t → IsApart e.size (a + x) (further a t)
  apart_on x t (inl under) = inl (omega (arith, under))
  apart_on x t (inr over) = inr (omega (arith, over))

  apart_off : (b : ℕ) (t : Range) → a ≤ b → IsApart e.size b (further a t) → IsApart e.size (b - a) t
  apart_off b t up (inl under) = inl (omega (arith, under, up))
  apart_off b t up (inr over) = inr (omega (arith, over, up))

  spot_on : (x : ℕ) → IsTrue (is_spot 0 taken e x) → IsTrue (is_spot a (map (further a) taken) e (a + x))
  spot_on x spot =
      let free = spot_gives 0 taken e x spot in
      spot_from a (map (further a) taken) e (a + x) (record {
        multiple = mod_of_multiple (a + x) e.alignment (multiple_add a x e.alignment (multiple_of_mod a e.alignment even) (multiple_of_mod x e.alignment free.multiple));
        from = omega arith;
        free = λ t listed.
            let made : IsMade (further a) taken t = in_map_to (further a) taken t listed in
            subst (IsApart e.size (a + x)) made.is (apart_on x made.from (free.free made.from made.has));
      })

  spot_off : (b : ℕ) → IsTrue (is_spot a (map (further a) taken) e b) → IsTrue (is_spot 0 taken e (b - a))
  spot_off b spot =
      let free = spot_gives a (map (further a) taken) e b spot in
      spot_from 0 taken e (b - a) (record {
        multiple = mod_of_multiple (b - a) e.alignment (multiple_less a b e.alignment free.from (multiple_of_mod a e.alignment even) (multiple_of_mod b e.alignment free.multiple));
        from = omega arith;
        free = λ t listed. apart_off b t free.from (free.free (further a t) (in_map_from (further a) taken t listed));
      })

  spot_further : 0 < e.alignment → first_spot a (map (further a) taken) e ≡ a + first_spot 0 taken e
  spot_further pos =
      let least = least_spot 0 taken e pos in
      only_least a (map (further a) taken) e (a + first_spot 0 taken e) pos (record {
        free = spot_on (first_spot 0 taken e) least.free;
        least = λ b spot.
            let up = least.least (b - a) (spot_off b spot) in
            let from = (spot_gives a (map (further a) taken) e b spot).from in
            omega (arith, up, from);
      })

-- ---- so each item has its place

placed_too : (i : PlacingItem) (a : ℕ) (p : Placing) → are_placed (and_placed i a p) ≡ are_placed p
placed_too i a (AllPlaced placed) = refl
placed_too i a (Lacks j) = refl

same_range : (a f size : ℕ) → ◌≡◌ {A = Range} (further a (range_from f size)) (range_from (a + f) size)
same_range a f size = ap (λ n. record { first = a + f; last = n }) (let is : a + (f + (size - 1)) ≡ a + f + (size - 1) = omega arith in is)

module _ (a size : ℕ) where
  abbrev inside : PlacingItem → List Range
  inside i = range_from a size ∷ []

  ends : (e : Extent) (f : ℕ) → f + (e.size - 1) + 1 ≤ size → a + (size - 1) ≤ e.highest → ends_by (range_from a size) e (a + f) ≡ true
  ends e f within below =
      and_from (nat_le (a + f + (e.size - 1)) (a + (size - 1))) (nat_le (a + f + (e.size - 1)) e.highest)
      (le-leb (a + f + (e.size - 1)) (a + (size - 1)) (omega (arith, within)))
      (le-leb (a + f + (e.size - 1)) e.highest (omega (arith, within, below)))

  pub have_room : (taken : List Range) (items : List PlacingItem) → end_of (laid_out taken (map (λ (i : PlacingItem). i.extent) items)) ≤ size → ((i : PlacingItem) → Contains items i → CanBeIn a size i)
      → are_placed (place_all inside (map (further a) taken) items) ≡ true
  have_room taken [] within can = refl
  have_room taken (i ∷ items) within can =
      let e = i.extent in
      let f = first_spot 0 taken e in
      let here : Range = range_from f e.size in
      let is = can i (in_head i items) in
      let spot = spot_further a taken e is.multiple is.alignment in
      let end = end_behind (laid_out (here ∷ taken) (map (λ (i : PlacingItem). i.extent) items)) here (laid_keeps (here ∷ taken) (map (λ (i : PlacingItem). i.extent) items) here (in_head here taken)) in
      let ends_here = ends e f (omega (arith, end, within)) is.below in
      let place : first_place (inside i) (map (further a) taken) e ≡ Some (a + f) =
      ap (λ n. else_at (cond (ends_by (range_from a size) e n) (Some n) None) None) spot
      ∙ ap (λ b. else_at (cond b (Some (a + f)) None) None) ends_here in
      ap (λ o. are_placed (place_next i o (λ b. place_all inside (taken_by i b ∷ map (further a) taken) items))) place
      ∙ placed_too i (a + f) (place_all inside (taken_by i (a + f) ∷ map (further a) taken) items)
      ∙ ap (λ (t : Range). are_placed (place_all inside (t ∷ map (further a) taken) items)) (sym (same_range a f e.size))
      ∙ have_room (here ∷ taken) items within (λ j listed. can j (in_tail i items j listed))

pub window_has_room : (page : ℕ) (spare : Option Extent) (items : List PlacingItem) (a size : ℕ) → 0 < page → size ≡ raised_to page (end_of (laid_out [] (with_spare spare (map (λ (i : PlacingItem). i.extent) items))))
    → ((i : PlacingItem) → Contains items i → CanBeIn a size i) → are_placed (place_all (λ i. range_from a size ∷ []) [] items) ≡ true
window_has_room page spare items a size pos is can =
    let extents = map (λ (i : PlacingItem). i.extent) items in
    let from = (raised page (end_of (laid_out [] (with_spare spare extents))) pos).from in
    let end = end_more (laid_out [] extents) (laid_out [] (with_spare spare extents)) (laid_before [] extents spare) in
    have_room a size [] items (omega (arith, is, from, end)) can
