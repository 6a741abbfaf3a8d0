-- Places beside what is taken, and beside what more is taken for each item: for a new window, what lines hold behind it.
use Rattle.std.proofs.Common.{◌≡◌, ℕ, ◌<◌, inl, inr, List, [], ◌∷◌, ◌++◌, refl, sym, ◌∙◌, ap, subst, Option, None, Some}
use Rattle.std.specs.Bool.{IsTrue}
use Rattle.std.specs.List.{Contains}
use Rattle.std.proofs.lemmas.Bool.{false≢true}
use Rattle.std.proofs.lemmas.List.Elements.{Contains-append_cases, Contains-append_left, Contains-append_right}
use Rattle.pci_spec.specs.Decoded.{Range}
use Rattle.pci_spec.proofs.Members.{in_nil, in_head, in_tail, in_cons_cases, in_map_from}
use Rattle.plan_spec.specs.Planning.Layout.{LieApart}
use Rattle.settle_spec.specs.FirstPlace.{Extent, is_place, first_place}
use Rattle.settle_spec.specs.Items.{PlacingItem, Placed, Placing, AllPlaced, Lacks, and_placed, place_next, are_placed, place_all, place_each, taken_by}
use Rattle.settle_spec.specs.Places.{placed_of}
use Rattle.settle_spec.specs.PlacingLaws.{ArePlaced}
use Rattle.settle_spec.proofs.Buses.{next_same}
use Rattle.settle_spec.proofs.FirstPlace.{first_is, some_place}
use Rattle.settle_spec.proofs.LastSpot.{place_gives, place_from}
use Rattle.settle_laws.specs.KeptLaws.{IsRangeApart, IsAlikeIn}
use Rattle.settle_laws.proofs.EachPlaced.{IsFreeAt, AreFree, each_free}
use Rattle.settle_laws.proofs.Outside.{alike_cons, same_first}

-- ---- what more is taken is aside

-- what is more is the same in both lists
pub alike_behind : (r : Range) (more xs ys : List Range) → IsAlikeIn r xs ys → IsAlikeIn r (more ++ xs) (more ++ ys)
alike_behind r more xs ys alike t has = elim (Contains-append_cases more xs t has) [
  | inl there ↦ inl (Contains-append_left more ys t there)
  | inr own ↦ elim (alike t own) [ inl there ↦ inl (Contains-append_right more ys t there) | inr out ↦ inr out ]
]

-- what is more is aside
pub alike_without : (r : Range) (more xs ys : List Range) → ((t : Range) → Contains more t → IsRangeApart r t) → IsAlikeIn r xs ys → IsAlikeIn r (more ++ xs) ys
alike_without r more xs ys aside alike t has = elim (Contains-append_cases more xs t has) [
  | inl there ↦ inr (aside t there)
  | inr own ↦ alike t own
]

pub alike_more : (r : Range) (more xs ys : List Range) → IsAlikeIn r xs ys → IsAlikeIn r xs (more ++ ys)
alike_more r more xs ys alike t has = elim (alike t has) [ inl there ↦ inl (Contains-append_right more ys t there) | inr out ↦ inr out ]

module _ (r : Range) (more : PlacingItem → List Range) where
  abbrev find : PlacingItem → List Range → Option ℕ
  find i xs = first_place (r ∷ []) (more i ++ xs) i.extent

  -- places in a range don't hang on what is taken outside it
  pub same_with : (items : List PlacingItem) (xs ys : List Range) → IsAlikeIn r xs ys → IsAlikeIn r ys xs → ((i : PlacingItem) → Contains items i → 0 < i.extent.alignment)
      → place_each find xs items ≡ place_each find ys items
  same_with [] xs ys to back pos = refl
  same_with (i ∷ items) xs ys to back pos =
      ap (λ o. place_next i o (λ a. place_each find (taken_by i a ∷ xs) items))
      (same_first r (more i ++ xs) (more i ++ ys) (alike_behind r (more i) xs ys to) (alike_behind r (more i) ys xs back) i.extent (pos i (in_head i items)))
      ∙ next_same i (find i ys) (λ a. place_each find (taken_by i a ∷ xs) items) (λ a. place_each find (taken_by i a ∷ ys) items)
      (λ a. same_with items (taken_by i a ∷ xs) (taken_by i a ∷ ys) (alike_cons r (taken_by i a) xs ys to) (alike_cons r (taken_by i a) ys xs back) (λ j has. pos j (in_tail i items j has)))

  -- nor on what more is taken for an item, if that is outside it
  pub same_without : (items : List PlacingItem) (xs : List Range) → ((i : PlacingItem) (t : Range) → Contains items i → Contains (more i) t → IsRangeApart r t) → ((i : PlacingItem) → Contains items i → 0 < i.extent.alignment)
      → place_each find xs items ≡ place_all (λ i. r ∷ []) xs items
  same_without [] xs aside pos = refl
  same_without (i ∷ items) xs aside pos =
      ap (λ o. place_next i o (λ a. place_each find (taken_by i a ∷ xs) items))
      (same_first r (more i ++ xs) xs (alike_without r (more i) xs xs (λ t has. aside i t (in_head i items) has) (λ t has. inl has)) (alike_more r (more i) xs xs (λ t has. inl has)) i.extent (pos i (in_head i items)))
      ∙ next_same i (first_place (r ∷ []) xs i.extent) (λ a. place_each find (taken_by i a ∷ xs) items) (λ a. place_all (λ i. r ∷ []) (taken_by i a ∷ xs) items)
      (λ a. same_without items (taken_by i a ∷ xs) (λ j t has. aside j t (in_tail i items j has)) (λ j has. pos j (in_tail i items j has)))

-- ---- what is found for each

-- one of what is placed has its place by a search beside what is taken, and perhaps more
pub record IsFoundAt (find : PlacingItem → List Range → Option ℕ) (taken : List Range) (p : Placed) : Type 0 where
  pub beside : List Range
  pub more : (t : Range) → Contains taken t → Contains beside t
  pub is : find p.item beside ≡ Some p.at

pub found_each : (find : PlacingItem → List Range → Option ℕ) (taken : List Range) (items : List PlacingItem) (placed : List Placed) → place_each find taken items ≡ AllPlaced placed
    → (p : Placed) → Contains placed p → IsFoundAt find taken p
found_each find taken [] placed done p has = absurd (in_nil p (subst (λ xs. Contains xs p) (sym (ap placed_of done)) has))
found_each find taken (i ∷ items) placed done p has =
    by (find i taken) refl done (λ a rest is in_rest. found_each find (taken_by i a ∷ taken) items rest is p in_rest)
  where
    more : ℕ → Placing
    more a = place_each find (taken_by i a ∷ taken) items

    by_rest : (a : ℕ) → find i taken ≡ Some a → (x : Placing) → more a ≡ x → and_placed i a x ≡ AllPlaced placed
        → ((rest : List Placed) → more a ≡ AllPlaced rest → Contains rest p → IsFoundAt find (taken_by i a ∷ taken) p) → IsFoundAt find taken p
    by_rest a some (AllPlaced rest) is done again =
        elim (in_cons_cases (record { item = i; at = a }) rest p (subst (λ xs. Contains xs p) (sym (ap placed_of done)) has)) [
          | inl here ↦ subst (IsFoundAt find taken) here (record { beside = taken; more = λ t in_t. in_t; is = some })
          | inr later ↦ (let own = again rest is later in record { beside = own.beside; more = λ t in_t. own.more t (in_tail (taken_by i a) taken t in_t); is = own.is })
        ]
    by_rest a some (Lacks j) is done again = absurd (false≢true (ap are_placed done))

    by : (o : Option ℕ) → find i taken ≡ o → place_next i o more ≡ AllPlaced placed
        → ((a : ℕ) (rest : List Placed) → more a ≡ AllPlaced rest → Contains rest p → IsFoundAt find (taken_by i a ∷ taken) p) → IsFoundAt find taken p
    by None none done again = absurd (false≢true (ap are_placed done))
    by (Some a) some done again = by_rest a some (more a) refl done (again a)

-- ---- first places beside what more is taken

-- a place that is off more is off less
less_taken : (r : Range) (xs ys : List Range) (e : Extent) (a : ℕ) → ((t : Range) → Contains ys t → Contains xs t) → IsTrue (is_place r xs e a) → IsTrue (is_place r ys e a)
less_taken r xs ys e a sub place =
    let at = place_gives r xs e a place in
    place_from r ys e a record { multiple = at.multiple; from = at.from; free = λ t has. at.free t (sub t has); last = at.last; highest = at.highest }

module _ (ranges more : PlacingItem → List Range) where
  abbrev first_in : PlacingItem → List Range → Option ℕ
  first_in i xs = first_place (ranges i) (more i ++ xs) i.extent

  -- items are placed off what is taken, each other, and what more is taken for each
  pub record ArePlacedOff (taken : List Range) (items : List PlacingItem) (placed : List Placed) : Type 0 where
    pub are : ArePlaced ranges taken items placed
    pub off : (p : Placed) (t : Range) → Contains placed p → Contains (more p.item) t → LieApart (taken_by p.item p.at) t

  module _ (taken : List Range) (items : List PlacingItem) (pos : (i : PlacingItem) → Contains items i → 0 < i.extent.alignment) where
    place_at : (i : PlacingItem) (xs : List Range) (a : ℕ) → 0 < i.extent.alignment → first_in i xs ≡ Some a → (r : Range) × Contains (ranges i) r × IsTrue (is_place r (more i ++ xs) i.extent a)
    place_at i xs a aligned is = some_place (ranges i) (more i ++ xs) i.extent a ((first_is (ranges i) (more i ++ xs) i.extent a aligned).0 is)

    free_at : (i : PlacingItem) (xs : List Range) (a : ℕ) → Contains items i → first_in i xs ≡ Some a → IsFreeAt i.extent xs a
    free_at i xs a has is =
        let place = place_at i xs a (pos i has) is in
        let at = place_gives place.0 (more i ++ xs) i.extent a place.2 in
        record { multiple = at.multiple; free = λ t in_t. at.free t (Contains-append_right (more i) xs t in_t); highest = at.highest }

    pub placed_off : (placed : List Placed) → place_each first_in taken items ≡ AllPlaced placed → ArePlacedOff taken items placed
    placed_off placed done = record {
      are = record {
        all = free.all;
        each = λ p has.
            let at = found_each first_in taken items placed done p has in
            let place = place_at p.item at.beside p.at (aligned p has) at.is in
            (place.0, place.1, less_taken place.0 (more p.item ++ at.beside) taken p.item.extent p.at (λ t in_t. Contains-append_right (more p.item) at.beside t (at.more t in_t)) place.2);
        apart = free.apart;
      };
      off = λ p t has behind.
          let at = found_each first_in taken items placed done p has in
          let place = place_at p.item at.beside p.at (aligned p has) at.is in
          (place_gives place.0 (more p.item ++ at.beside) p.item.extent p.at place.2).free t (Contains-append_left (more p.item) at.beside t behind);
    }
      where
        free : AreFree taken items placed
        free = each_free first_in taken items placed free_at done

        aligned : (p : Placed) → Contains placed p → 0 < p.item.extent.alignment
        aligned p has = pos p.item (subst (λ is. Contains is p.item) free.all (in_map_from (λ (x : Placed). x.item) placed p has))
