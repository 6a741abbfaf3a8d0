-- Places in a range don't hang on what is taken outside it.
use Rattle.std.proofs.Common.{◌≡◌, ℕ, ◌+◌, ◌-◌, ◌<◌, ◌⊎◌, inl, inr, List, [], ◌∷◌, ◌++◌, refl, arith, ◌∙◌, ap, subst, Option, None, Some}
use Rattle.std.specs.Bool.{IsTrue, nat_le}
use Rattle.std.specs.List.{Contains}
use Rattle.std.proofs.lemmas.Bool.{and_parts, and_from, both_ways, false_from_ne_true, leb-true}
use Rattle.pci_spec.specs.Decoded.{Range}
use Rattle.pci_spec.proofs.Members.{in_head, in_tail, in_cons_cases}
use Rattle.settle_spec.specs.FirstPlace.{Extent, is_spot, ends_by, is_place, first_place_in, first_place, else_at}
use Rattle.settle_spec.specs.Items.{PlacingItem, Placed, Placing, AllPlaced, Lacks, and_placed, place_next, place_all, are_placed, taken_by}
use Rattle.settle_spec.proofs.FirstPlace.{in_is, in_none, in_by, in_by_none}
use Rattle.settle_spec.proofs.FirstSpot.{spot_gives, spot_from}
use Rattle.settle_laws.specs.KeptLaws.{IsAlikeIn}

pub alike_cons : (r u : Range) (xs ys : List Range) → IsAlikeIn r xs ys → IsAlikeIn r (u ∷ xs) (u ∷ ys)
alike_cons r u xs ys alike t has = elim (in_cons_cases u xs t has) [
  | inl here ↦ inl (subst (Contains (u ∷ ys)) here (in_head u ys))
  | inr later ↦ elim (alike t later) [ inl there ↦ inl (in_tail u ys t there) | inr out ↦ inr out ]
]

place_too : (r : Range) (xs ys : List Range) (e : Extent) (b : ℕ) → IsAlikeIn r ys xs → IsTrue (is_place r xs e b) → IsTrue (is_place r ys e b)
place_too r xs ys e b alike place =
    let parts = and_parts (is_spot r.first xs e b) (ends_by r e b) place in
    let free = spot_gives r.first xs e b parts.0 in
    let from = free.from in
    let end = leb-true (b + (e.size - 1)) r.last (and_parts (nat_le (b + (e.size - 1)) r.last) (nat_le (b + (e.size - 1)) e.highest) parts.1).0 in
    and_from (is_spot r.first ys e b) (ends_by r e b)
    (spot_from r.first ys e b record {
      multiple = free.multiple;
      from = free.from;
      free = λ t has. elim (alike t has) [
        | inl there ↦ free.free t there
        | inr (inl under) ↦ inr (omega (arith, under, from))
        | inr (inr over) ↦ inl (omega (arith, over, end))
      ];
    }) parts.1

module _ (r : Range) (xs ys : List Range) (to : IsAlikeIn r xs ys) (back : IsAlikeIn r ys xs) where
  same_in : (e : Extent) → 0 < e.alignment → first_place_in r xs e ≡ first_place_in r ys e
  same_in e pos = by (first_place_in r ys e) refl
    where
      by : (o : Option ℕ) → first_place_in r ys e ≡ o → first_place_in r xs e ≡ o
      by None is = in_by_none r xs e pos (λ b. false_from_ne_true (is_place r xs e b) (λ place. both_ways (is_place r ys e b) (in_none r ys e pos is b) (place_too r xs ys e b back place)))
      by (Some a) is =
          let first = in_is r ys e pos a is in
          in_by r xs e pos a record {
            place = place_too r ys xs e a to first.place;
            least = λ b place. first.least b (place_too r xs ys e b back place);
          }

  pub same_first : (e : Extent) → 0 < e.alignment → first_place (r ∷ []) xs e ≡ first_place (r ∷ []) ys e
  same_first e pos = ap (λ o. else_at o None) (same_in e pos)

next_by : (i : PlacingItem) (o : Option ℕ) (f g : ℕ → Placing) → ((a : ℕ) → f a ≡ g a) → place_next i o f ≡ place_next i o g
next_by i None f g same = refl
next_by i (Some a) f g same = ap (and_placed i a) (same a)

-- so it is with all items of a window
pub same_outside : (r : Range) (items : List PlacingItem) (xs ys : List Range) → IsAlikeIn r xs ys → IsAlikeIn r ys xs → ((i : PlacingItem) → Contains items i → 0 < i.extent.alignment)
    → place_all (λ i. r ∷ []) xs items ≡ place_all (λ i. r ∷ []) ys items
same_outside r [] xs ys to back pos = refl
same_outside r (i ∷ items) xs ys to back pos =
    ap (λ o. place_next i o (λ a. place_all (λ i. r ∷ []) (taken_by i a ∷ xs) items)) (same_first r xs ys to back i.extent (pos i (in_head i items)))
    ∙ next_by i (first_place (r ∷ []) ys i.extent) (λ a. place_all (λ i. r ∷ []) (taken_by i a ∷ xs) items) (λ a. place_all (λ i. r ∷ []) (taken_by i a ∷ ys) items)
    (λ a. same_outside r items (taken_by i a ∷ xs) (taken_by i a ∷ ys) (alike_cons r (taken_by i a) xs ys to) (alike_cons r (taken_by i a) ys xs back) (λ j has. pos j (in_tail i items j has)))

-- ---- items of two lists

-- what is taken once these are placed
abbrev pub with_taken : List Placed → List Range → List Range
with_taken [] taken = taken
with_taken (p ∷ placed) taken = with_taken placed (taken_by p.item p.at ∷ taken)

and_given : (i : PlacingItem) (a : ℕ) (p : Placing) (placed : List Placed) → and_placed i a p ≡ AllPlaced placed → (rest : List Placed) × (p ≡ AllPlaced rest) × (record { item = i; at = a } ∷ rest ≡ placed)
and_given i a (AllPlaced rest) placed is = let e : record { item = i; at = a } ∷ rest ≡ placed = cc in (rest, refl, e)
and_given i a (Lacks j) placed is = cc

and_are : (i : PlacingItem) (a : ℕ) (p : Placing) → are_placed (and_placed i a p) ≡ are_placed p
and_are i a (AllPlaced placed) = refl
and_are i a (Lacks j) = refl

next_given : (ranges : PlacingItem → List Range) (taken : List Range) (i : PlacingItem) (items more : List PlacingItem) (o : Option ℕ)
    → ((a : ℕ) (rest : List Placed) → place_all ranges (taken_by i a ∷ taken) items ≡ AllPlaced rest → are_placed (place_all ranges (taken_by i a ∷ taken) (items ++ more)) ≡ are_placed (place_all ranges (with_taken rest (taken_by i a ∷ taken)) more))
    → (placed : List Placed) → place_next i o (λ a. place_all ranges (taken_by i a ∷ taken) items) ≡ AllPlaced placed
    → are_placed (place_next i o (λ a. place_all ranges (taken_by i a ∷ taken) (items ++ more))) ≡ are_placed (place_all ranges (with_taken placed taken) more)
next_given ranges taken i items more None rest placed is = cc
next_given ranges taken i items more (Some a) rest placed is =
    let given = and_given i a (place_all ranges (taken_by i a ∷ taken) items) placed is in
    and_are i a (place_all ranges (taken_by i a ∷ taken) (items ++ more))
    ∙ rest a given.0 given.1
    ∙ ap (λ ps. are_placed (place_all ranges (with_taken ps taken) more)) given.2

pub placed_after : (ranges : PlacingItem → List Range) (taken : List Range) (items more : List PlacingItem) (placed : List Placed) → place_all ranges taken items ≡ AllPlaced placed
    → are_placed (place_all ranges taken (items ++ more)) ≡ are_placed (place_all ranges (with_taken placed taken) more)
placed_after ranges taken [] more placed is = let e : [] ≡ placed = cc in ap (λ ps. are_placed (place_all ranges (with_taken ps taken) more)) e
placed_after ranges taken (i ∷ items) more placed is =
    next_given ranges taken i items more (first_place (ranges i) taken i.extent) (λ a rest done. placed_after ranges (taken_by i a ∷ taken) items more rest done) placed is

-- what is taken was so before, or is one of these
pub with_taken_is : (placed : List Placed) (taken : List Range) (t : Range) → Contains (with_taken placed taken) t → Contains taken t ⊎ ((p : Placed) × Contains placed p × (taken_by p.item p.at ≡ t))
with_taken_is [] taken t has = inl has
with_taken_is (p ∷ placed) taken t has = elim (with_taken_is placed (taken_by p.item p.at ∷ taken) t has) [
  | inl there ↦ elim (in_cons_cases (taken_by p.item p.at) taken t there) [
    | inl here ↦ inr (p, in_head p placed, here)
    | inr before ↦ inl before
  ]
  | inr (x, listed, same) ↦ inr (x, in_tail p placed x listed, same)
]

-- and what was so stays so
pub with_taken_keeps : (placed : List Placed) (taken : List Range) (t : Range) → Contains taken t → Contains (with_taken placed taken) t
with_taken_keeps [] taken t has = has
with_taken_keeps (p ∷ placed) taken t has = with_taken_keeps placed (taken_by p.item p.at ∷ taken) t (in_tail (taken_by p.item p.at) taken t has)
