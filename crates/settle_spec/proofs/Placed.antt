-- What is placed one after another lies in ranges, and apart.
use Rattle.std.proofs.Common.{◌≡◌, ◌&&◌, ℕ, ◌%◌, ◌<◌, inl, inr, List, [], ◌∷◌, ap, subst, refl, true, false, Bool, Option, None, Some}
use Rattle.std.specs.Bool.{IsTrue, nat_lt, nat_le, ◌==◌}
use Rattle.std.specs.List.{Contains}
use Rattle.std.proofs.lemmas.Bool.{false≢true, and_parts, and_from, or_cases, or_left, or_right}
use Rattle.pci_spec.specs.Decoded.{Range}
use Rattle.pci_spec.proofs.Members.{in_nil, in_head, in_tail, in_cons_cases, pairs_nil, pairs_cons}
use Rattle.plan_spec.specs.Place.{range_from}
use Rattle.settle_spec.specs.FirstPlace.{Extent, ranges_are_apart, is_free_from, is_spot, ends_by, is_place, first_place}
use Rattle.settle_spec.specs.Items.{PlacingItem, Placed, Placing, AllPlaced, Lacks, and_placed, place_next, place_all, taken_by}
use Rattle.settle_spec.specs.PlacingLaws.{PlacesAreApart, ArePlaced}
use Rattle.settle_spec.proofs.FirstPlace.{first_is, some_place}

abbrev is_done : Placing → Bool
is_done (AllPlaced placed) = true
is_done (Lacks i) = false

abbrev placed_of : Placing → List Placed
placed_of (AllPlaced placed) = placed
placed_of (Lacks i) = []

-- ---- a free place is off each range that is taken

free_of : (r : Range) (taken : List Range) (e : Extent) (a : ℕ) → IsTrue (is_place r taken e a) → is_free_from taken e a ≡ true
free_of r taken e a place =
    let spot = (and_parts (is_spot r.first taken e a) (ends_by r e a) place).0 in
    (and_parts (nat_le r.first a) (is_free_from taken e a) (and_parts (a % e.alignment == 0) (nat_le r.first a && is_free_from taken e a) spot).1).1

-- one that is off more is off less
place_less : (r t : Range) (taken : List Range) (e : Extent) (a : ℕ) → IsTrue (is_place r (t ∷ taken) e a) → IsTrue (is_place r taken e a)
place_less r t taken e a place =
    let parts = and_parts (is_spot r.first (t ∷ taken) e a) (ends_by r e a) place in
    let spot = and_parts (a % e.alignment == 0) (nat_le r.first a && is_free_from (t ∷ taken) e a) parts.0 in
    let more = and_parts (nat_le r.first a) (is_free_from (t ∷ taken) e a) spot.1 in
    and_from (is_spot r.first taken e a) (ends_by r e a)
    (and_from (a % e.alignment == 0) (nat_le r.first a && is_free_from taken e a) spot.0
    (and_from (nat_le r.first a) (is_free_from taken e a) more.0 (and_parts (ranges_are_apart (range_from a e.size) t) (is_free_from taken e a) more.1).1)) parts.1

apart_first : (r t : Range) (taken : List Range) (e : Extent) (a : ℕ) → IsTrue (is_place r (t ∷ taken) e a) → ranges_are_apart t (range_from a e.size) ≡ true
apart_first r t taken e a place =
    let apart = (and_parts (ranges_are_apart (range_from a e.size) t) (is_free_from taken e a) (free_of r (t ∷ taken) e a place)).0 in
    elim (or_cases (nat_lt (range_from a e.size).last t.first) (nat_lt t.last a) apart) [
      | inl under ↦ or_right (nat_lt t.last a) (nat_lt (range_from a e.size).last t.first) under
      | inr over ↦ or_left (nat_lt t.last a) (nat_lt (range_from a e.size).last t.first) over
    ]

-- ---- all items

abbrev Made : (PlacingItem → List Range) → List Range → List PlacingItem → Type 0
Made ranges taken items = (placed : List Placed) → place_all ranges taken items ≡ AllPlaced placed → ArePlaced ranges taken items placed

first_of_all : (ranges : PlacingItem → List Range) (taken : List Range) (i : PlacingItem) (items : List PlacingItem) (a : ℕ) → 0 < i.extent.alignment → first_place (ranges i) taken i.extent ≡ Some a
    → (rest : List Placed) → ArePlaced ranges (taken_by i a ∷ taken) items rest → ArePlaced ranges taken (i ∷ items) (record { item = i; at = a } ∷ rest)
first_of_all ranges taken i items a pos found rest are =
    let first : Placed = record { item = i; at = a } in
    let place = some_place (ranges i) taken i.extent a ((first_is (ranges i) taken i.extent a pos).0 found) in
    record {
      all = ap (λ xs. i ∷ xs) are.all;
      each = λ p listed. elim (in_cons_cases first rest p listed) [
        | inl here ↦ subst (λ (q : Placed). (r : Range) × Contains (ranges q.item) r × IsTrue (is_place r taken q.item.extent q.at)) here place
        | inr later ↦ (let own = are.each p later in (own.0, own.1, place_less own.0 (taken_by i a) taken p.item.extent p.at own.2))
      ];
      apart = pairs_cons PlacesAreApart first rest
          (λ p listed. let own = are.each p listed in apart_first own.0 (taken_by i a) taken p.item.extent p.at own.2)
          are.apart;
    }

by_rest : (ranges : PlacingItem → List Range) (taken : List Range) (i : PlacingItem) (items : List PlacingItem) (a : ℕ) → 0 < i.extent.alignment → first_place (ranges i) taken i.extent ≡ Some a
    → (p : Placing) → place_all ranges (taken_by i a ∷ taken) items ≡ p → Made ranges (taken_by i a ∷ taken) items
    → (placed : List Placed) → and_placed i a p ≡ AllPlaced placed → ArePlaced ranges taken (i ∷ items) placed
by_rest ranges taken i items a pos found (AllPlaced rest) is made placed done =
    subst (ArePlaced ranges taken (i ∷ items)) (ap placed_of done) (first_of_all ranges taken i items a pos found rest (made rest is))
by_rest ranges taken i items a pos found (Lacks j) is made placed done = absurd (false≢true (ap is_done done))

by_first : (ranges : PlacingItem → List Range) (taken : List Range) (i : PlacingItem) (items : List PlacingItem) → 0 < i.extent.alignment
    → (o : Option ℕ) → first_place (ranges i) taken i.extent ≡ o → ((a : ℕ) → Made ranges (taken_by i a ∷ taken) items)
    → (placed : List Placed) → place_next i o (λ a. place_all ranges (taken_by i a ∷ taken) items) ≡ AllPlaced placed → ArePlaced ranges taken (i ∷ items) placed
by_first ranges taken i items pos None is made placed done = absurd (false≢true (ap is_done done))
by_first ranges taken i items pos (Some a) is made placed done =
    by_rest ranges taken i items a pos is (place_all ranges (taken_by i a ∷ taken) items) refl (made a) placed done

pub are_placed : (ranges : PlacingItem → List Range) (taken : List Range) (items : List PlacingItem) (placed : List Placed)
    → ((i : PlacingItem) → Contains items i → 0 < i.extent.alignment) → place_all ranges taken items ≡ AllPlaced placed → ArePlaced ranges taken items placed
are_placed ranges taken [] placed pos done =
    subst (ArePlaced ranges taken []) (ap placed_of done) (record { all = refl; each = λ p listed. absurd (in_nil p listed); apart = pairs_nil PlacesAreApart })
are_placed ranges taken (i ∷ items) placed pos done =
    by_first ranges taken i items (pos i (in_head i items)) (first_place (ranges i) taken i.extent) refl
    (λ a rest is. are_placed ranges (taken_by i a ∷ taken) items rest (λ j listed. pos j (in_tail i items j listed)) is) placed done
