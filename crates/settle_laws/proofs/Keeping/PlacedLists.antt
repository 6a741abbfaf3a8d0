-- Items of two lists that are placed one after the other have the places of both.
use Rattle.std.proofs.Common.{◌≡◌, ℕ, ◌+◌, ◌-◌, inl, inr, List, [], ◌∷◌, ◌++◌, map, true, refl, sym, ◌∙◌, ap, subst, Option, None, Some}
use Rattle.std.specs.Bool.{nat_lt}
use Rattle.std.specs.List.{Contains}
use Rattle.std.proofs.lemmas.Bool.{lt-ltb, or_left, or_right}
use Rattle.std.proofs.lemmas.List.Elements.{Contains-append_cases}
use Rattle.pci_spec.specs.Decoded.{Range}
use Rattle.pci_spec.proofs.Members.{in_nil, in_head, in_cons_cases, in_map_from, pairs_append}
use Rattle.plan_spec.specs.Place.{range_from}
use Rattle.settle_spec.specs.FirstPlace.{Extent, ranges_are_apart, is_place}
use Rattle.settle_spec.specs.Items.{PlacingItem, Placed, Placing, AllPlaced, Lacks, and_placed, place_next, taken_by, place_each}
use Rattle.settle_spec.specs.Places.{placed_of}
use Rattle.settle_spec.specs.PlacingLaws.{ArePlaced, PlacesAreApart}
use Rattle.settle_spec.proofs.FirstSpot.{IsApart}
use Rattle.settle_spec.proofs.LastSpot.{place_gives, place_from}
use Rattle.settle_laws.proofs.Outside.{with_taken, with_taken_keeps}
use Rattle.settle_laws.proofs.Keeping.PlacedBus.{items}

pub each_append : (find : PlacingItem → List Range → Option ℕ) (taken : List Range) (xs ys : List PlacingItem) (first second : List Placed) → place_each find taken xs ≡ AllPlaced first
    → place_each find (with_taken first taken) ys ≡ AllPlaced second → place_each find taken (xs ++ ys) ≡ AllPlaced (first ++ second)
each_append find taken [] ys first second done more =
    let none : [] ≡ first = ap placed_of done in
    subst (λ f. place_each find (with_taken f taken) ys ≡ AllPlaced second → place_each find taken ys ≡ AllPlaced (f ++ second)) none (λ e. e) more
each_append find taken (i ∷ xs) ys first second done more =
    by (find i taken) refl done (λ a rest is last. each_append find (taken_by i a ∷ taken) xs ys rest second is last)
  where
    rest_of : List PlacingItem → ℕ → Placing
    rest_of zs a = place_each find (taken_by i a ∷ taken) zs

    by_rest : (a : ℕ) → (p : Placing) → rest_of xs a ≡ p → and_placed i a p ≡ AllPlaced first
        → ((rest : List Placed) → rest_of xs a ≡ AllPlaced rest → place_each find (with_taken rest (taken_by i a ∷ taken)) ys ≡ AllPlaced second → rest_of (xs ++ ys) a ≡ AllPlaced (rest ++ second))
        → and_placed i a (rest_of (xs ++ ys) a) ≡ AllPlaced (first ++ second)
    by_rest a (Lacks j) is all again = cc
    by_rest a (AllPlaced rest) is all again =
        let list : record { item = i; at = a } ∷ rest ≡ first = ap placed_of all in
        ap (and_placed i a) (again rest is (subst (λ f. place_each find (with_taken f taken) ys ≡ AllPlaced second) (sym list) more))
        ∙ ap (λ f. AllPlaced (f ++ second)) list

    by : (o : Option ℕ) → find i taken ≡ o → place_next i o (rest_of xs) ≡ AllPlaced first
        → ((a : ℕ) (rest : List Placed) → rest_of xs a ≡ AllPlaced rest → place_each find (with_taken rest (taken_by i a ∷ taken)) ys ≡ AllPlaced second → rest_of (xs ++ ys) a ≡ AllPlaced (rest ++ second))
        → place_next i (find i taken) (rest_of (xs ++ ys)) ≡ AllPlaced (first ++ second)
    by None none all again = cc
    by (Some a) some all again = ap (λ o. place_next i o (rest_of (xs ++ ys))) some ∙ by_rest a (rest_of xs a) refl all (again a)

pub with_taken_has : (placed : List Placed) (taken : List Range) (p : Placed) → Contains placed p → Contains (with_taken placed taken) (taken_by p.item p.at)
with_taken_has [] taken p has = absurd (in_nil p has)
with_taken_has (x ∷ placed) taken p has = elim (in_cons_cases x placed p has) [
  | inl here ↦ subst (λ (y : Placed). Contains (with_taken placed (taken_by x.item x.at ∷ taken)) (taken_by y.item y.at)) here (with_taken_keeps placed (taken_by x.item x.at ∷ taken) (taken_by x.item x.at) (in_head (taken_by x.item x.at) taken))
  | inr later ↦ with_taken_has placed (taken_by x.item x.at ∷ taken) p later
]

pub map_append : (xs ys : List Placed) → map (λ (p : Placed). p.item) (xs ++ ys) ≡ map (λ (p : Placed). p.item) xs ++ map (λ (p : Placed). p.item) ys
map_append [] ys = refl
map_append (x ∷ xs) ys = ap (λ is. x.item ∷ is) (map_append xs ys)

-- a place that is off more is off less
pub fewer_taken : (r : Range) (xs ys : List Range) (e : Extent) (a : ℕ) → ((t : Range) → Contains ys t → Contains xs t) → is_place r xs e a ≡ true → is_place r ys e a ≡ true
fewer_taken r xs ys e a sub place =
    let at = place_gives r xs e a place in
    place_from r ys e a record { multiple = at.multiple; from = at.from; free = λ t has. at.free t (sub t has); last = at.last; highest = at.highest }

pub apart_back : (size a : ℕ) (t : Range) → IsApart size a t → ranges_are_apart t (range_from a size) ≡ true
apart_back size a t (inl under) = or_right (nat_lt t.last a) (nat_lt (a + (size - 1)) t.first) (lt-ltb (a + (size - 1)) t.first under)
apart_back size a t (inr over) = or_left (nat_lt t.last a) (nat_lt (a + (size - 1)) t.first) (lt-ltb t.last a over)

pub placed_append : (ranges : PlacingItem → List Range) (taken : List Range) (xs ys : List PlacingItem) (first second : List Placed) → ArePlaced ranges taken xs first → ArePlaced ranges (with_taken first taken) ys second
    → ArePlaced ranges taken (xs ++ ys) (first ++ second)
placed_append ranges taken xs ys first second one two = record {
  all = map_append first second ∙ ap (λ is. is ++ map (λ (p : Placed). p.item) second) one.all ∙ ap (λ is. xs ++ is) two.all;
  each = λ p has. elim (Contains-append_cases first second p has) [
    | inl early ↦ one.each p early
    | inr late ↦ (let own = two.each p late in (own.0, own.1, fewer_taken own.0 (with_taken first taken) taken p.item.extent p.at (λ t in_t. with_taken_keeps first taken t in_t) own.2))
  ];
  apart = pairs_append PlacesAreApart first second one.apart two.apart
      (λ p r in_p in_r.
      let own = two.each r in_r in
      apart_back r.item.extent.size r.at (taken_by p.item p.at) ((place_gives own.0 (with_taken first taken) r.item.extent r.at own.2).free (taken_by p.item p.at) (with_taken_has first taken p in_p)));
}

pub placed_by : (ranges others : PlacingItem → List Range) (taken : List Range) (items : List PlacingItem) (placed : List Placed) → ((i : PlacingItem) → Contains items i → others i ≡ ranges i) → ArePlaced ranges taken items placed → ArePlaced others taken items placed
placed_by ranges others taken items placed same are = record {
  all = are.all;
  each = λ p has.
      let own = are.each p has in
      let item : Contains items p.item = subst (λ is. Contains is p.item) are.all (in_map_from (λ (p : Placed). p.item) placed p has) in
      (own.0, subst (λ rs. Contains rs own.0) (sym (same p.item item)) own.1, own.2);
  apart = are.apart;
}
