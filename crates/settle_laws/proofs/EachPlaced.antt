-- Places that are found one after another: by first places, and where each is known beforehand.
use Rattle.std.proofs.Common.{◌≡◌, ℕ, ◌+◌, ◌-◌, ◌%◌, ◌≤◌, inl, inr, List, [], ◌∷◌, map, Option, None, Some, true, ap, sym, subst, ◌∙◌, refl}
use Rattle.std.specs.List.{Contains, AllPairs}
use Rattle.std.specs.Bool.{◌==◌, nat_lt}
use Rattle.std.proofs.lemmas.Bool.{false≢true, eq-eqb, eqb-true, lt-ltb, or_left, or_right}
use Rattle.pci_spec.specs.Decoded.{Range}
use Rattle.pci_spec.proofs.Members.{in_nil, in_head, in_tail, in_cons_cases, in_map_from, pairs_nil, pairs_cons, pairs_head, pairs_tail}
use Rattle.plan_spec.specs.Place.{range_from}
use Rattle.plan_spec.proofs.Planning.Behind.{any_from}
use Rattle.settle_spec.specs.FirstPlace.{Extent, ranges_are_apart, first_place}
use Rattle.settle_spec.specs.Stands.{rank}
use Rattle.settle_spec.specs.Items.{PlacingItem, Placed, Placing, AllPlaced, Lacks, and_placed, place_next, are_placed, place_all, taken_by, place_each}
use Rattle.settle_spec.specs.Places.{placed_of, place_among}
use Rattle.settle_spec.specs.PlacingLaws.{PlacesAreApart, HasOtherRank}
use Rattle.settle_spec.proofs.FirstSpot.{IsApart}
use Rattle.settle_laws.proofs.Finding.{found, is_found}
use Rattle.settle_laws.proofs.PlacedBus.{pairs_either}
use Rattle.settle_spec.proofs.Buses.{next_same}

-- ---- by first places

pub each_all : (ranges : PlacingItem → List Range) (taken : List Range) (items : List PlacingItem) → place_each (λ i xs. first_place (ranges i) xs i.extent) taken items ≡ place_all ranges taken items
each_all ranges taken [] = refl
each_all ranges taken (i ∷ items) =
    next_same i (first_place (ranges i) taken i.extent) (λ a. place_each (λ i xs. first_place (ranges i) xs i.extent) (taken_by i a ∷ taken) items) (λ a. place_all ranges (taken_by i a ∷ taken) items)
    (λ a. each_all ranges (taken_by i a ∷ taken) items)

-- what is placed are the items, in turn
pub each_items : (find : PlacingItem → List Range → Option ℕ) (taken : List Range) (items : List PlacingItem) (placed : List Placed) → place_each find taken items ≡ AllPlaced placed → map (λ (p : Placed). p.item) placed ≡ items
each_items find taken [] placed done = sym (ap (λ p. map (λ (x : Placed). x.item) (placed_of p)) done)
each_items find taken (i ∷ items) placed done =
    by (find i taken) done (λ a rest is. each_items find (taken_by i a ∷ taken) items rest is)
  where
    more : ℕ → Placing
    more a = place_each find (taken_by i a ∷ taken) items

    by_rest : (a : ℕ) (p : Placing) → more a ≡ p → and_placed i a p ≡ AllPlaced placed → ((rest : List Placed) → more a ≡ AllPlaced rest → map (λ (x : Placed). x.item) rest ≡ items) → map (λ (x : Placed). x.item) placed ≡ i ∷ items
    by_rest a (AllPlaced rest) is done again = sym (ap (λ p. map (λ (x : Placed). x.item) (placed_of p)) done) ∙ ap (λ xs. i ∷ xs) (again rest is)
    by_rest a (Lacks j) is done again = absurd (false≢true (ap are_placed done))

    by : (o : Option ℕ) → place_next i o more ≡ AllPlaced placed → ((a : ℕ) (rest : List Placed) → more a ≡ AllPlaced rest → map (λ (x : Placed). x.item) rest ≡ items) → map (λ (x : Placed). x.item) placed ≡ i ∷ items
    by None done again = absurd (false≢true (ap are_placed done))
    by (Some a) done again = by_rest a (more a) refl done (again a)

-- ---- places that are known beforehand

pub looked_up : (find : PlacingItem → List Range → Option ℕ) (taken : List Range) (placed : List Placed) → ((p : Placed) (xs : List Range) → Contains placed p → find p.item xs ≡ Some p.at)
    → place_each find taken (map (λ (p : Placed). p.item) placed) ≡ AllPlaced placed
looked_up find taken [] known = refl
looked_up find taken (p ∷ placed) known =
    ap (λ o. place_next p.item o (λ a. place_each find (taken_by p.item a ∷ taken) (map (λ (p : Placed). p.item) placed))) (known p taken (in_head p placed))
    ∙ ap (and_placed p.item p.at) (looked_up find (taken_by p.item p.at ∷ taken) placed (λ x xs has. known x xs (in_tail p placed x has)))

pairs_back : {X Y : Type 0} (R : Y → Y → Type 0) (f : X → Y) (xs : List X) → AllPairs R (map f xs) → AllPairs (λ x y. R (f x) (f y)) xs
pairs_back R f [] pairs = pairs_nil (λ x y. R (f x) (f y))
pairs_back R f (x ∷ xs) pairs =
    pairs_cons (λ x y. R (f x) (f y)) x xs (λ y has. pairs_head R (f x) (map f xs) (f y) pairs (in_map_from f xs y has)) (pairs_back R f xs (pairs_tail R (f x) (map f xs) pairs))

-- where items differ in rank, a part is among them at the place of its item
pub among_is : (placed : List Placed) → AllPairs HasOtherRank (map (λ (p : Placed). p.item) placed) → (p : Placed) → Contains placed p → place_among p.item.region placed ≡ Some p
among_is placed differ p has =
    let test = λ (x : Placed). rank x.item.region == rank p.item.region in
    let one = is_found test placed (any_from test placed p has (eq-eqb (rank p.item.region) (rank p.item.region) refl)) in
    let is = found test placed one.0 one.1 in
    let same = eqb-true (rank one.0.item.region) (rank p.item.region) is.1 in
    one.1 ∙ elim (pairs_either (λ (x y : Placed). HasOtherRank x.item y.item) placed (pairs_back HasOtherRank (λ (p : Placed). p.item) placed differ) one.0 p is.0 has) [
      | inl here ↦ ap Some here
      | inr (inl other) ↦ absurd (other same)
      | inr (inr other) ↦ absurd (other (sym same))
    ]

-- ---- places that are off what is taken

-- an extent at a multiple of its alignment, off what is taken, no higher than it may be
pub record IsFreeAt (e : Extent) (taken : List Range) (a : ℕ) : Type 0 where
  pub multiple : a % e.alignment ≡ 0
  pub free : (t : Range) → Contains taken t → IsApart e.size a t
  pub highest : a + (e.size - 1) ≤ e.highest

pub record AreFree (taken : List Range) (items : List PlacingItem) (placed : List Placed) : Type 0 where
  pub all : map (λ (p : Placed). p.item) placed ≡ items
  pub each : (p : Placed) → Contains placed p → IsFreeAt p.item.extent taken p.at
  pub apart : AllPairs PlacesAreApart placed

less_free : (e : Extent) (t : Range) (taken : List Range) (a : ℕ) → IsFreeAt e (t ∷ taken) a → IsFreeAt e taken a
less_free e t taken a is = record { multiple = is.multiple; free = λ u has. is.free u (in_tail t taken u has); highest = is.highest }

swap : (e : Extent) (t : Range) (a : ℕ) → IsApart e.size a t → ranges_are_apart t (range_from a e.size) ≡ true
swap e t a (inl under) = or_right (nat_lt t.last a) (nat_lt (a + (e.size - 1)) t.first) (lt-ltb (a + (e.size - 1)) t.first under)
swap e t a (inr over) = or_left (nat_lt t.last a) (nat_lt (a + (e.size - 1)) t.first) (lt-ltb t.last a over)

first_free : (taken : List Range) (i : PlacingItem) (items : List PlacingItem) (a : ℕ) → IsFreeAt i.extent taken a → (rest : List Placed) → AreFree (taken_by i a ∷ taken) items rest
    → AreFree taken (i ∷ items) (record { item = i; at = a } ∷ rest)
first_free taken i items a free rest are =
    let first : Placed = record { item = i; at = a } in
    record {
      all = ap (λ xs. i ∷ xs) are.all;
      each = λ p listed. elim (in_cons_cases first rest p listed) [
        | inl here ↦ subst (λ (x : Placed). IsFreeAt x.item.extent taken x.at) here free
        | inr later ↦ less_free p.item.extent (taken_by i a) taken p.at (are.each p later)
      ];
      apart = pairs_cons PlacesAreApart first rest (λ p listed. swap p.item.extent (taken_by i a) p.at ((are.each p listed).free (taken_by i a) (in_head (taken_by i a) taken))) are.apart;
    }

pub each_free : (find : PlacingItem → List Range → Option ℕ) (taken : List Range) (items : List PlacingItem) (placed : List Placed)
    → ((i : PlacingItem) (xs : List Range) (a : ℕ) → Contains items i → find i xs ≡ Some a → IsFreeAt i.extent xs a) → place_each find taken items ≡ AllPlaced placed → AreFree taken items placed
each_free find taken [] placed free done =
    subst (AreFree taken []) (ap placed_of done) (record { all = refl; each = λ p listed. absurd (in_nil p listed); apart = pairs_nil PlacesAreApart })
each_free find taken (i ∷ items) placed free done =
    by (find i taken) refl done (λ a rest is. each_free find (taken_by i a ∷ taken) items rest (λ j xs b listed e. free j xs b (in_tail i items j listed) e) is)
  where
    more : ℕ → Placing
    more a = place_each find (taken_by i a ∷ taken) items

    by_rest : (a : ℕ) → find i taken ≡ Some a → (p : Placing) → more a ≡ p → and_placed i a p ≡ AllPlaced placed → ((rest : List Placed) → more a ≡ AllPlaced rest → AreFree (taken_by i a ∷ taken) items rest)
        → AreFree taken (i ∷ items) placed
    by_rest a some (AllPlaced rest) is done again =
        subst (AreFree taken (i ∷ items)) (ap placed_of done) (first_free taken i items a (free i taken a (in_head i items) some) rest (again rest is))
    by_rest a some (Lacks j) is done again = absurd (false≢true (ap are_placed done))

    by : (o : Option ℕ) → find i taken ≡ o → place_next i o more ≡ AllPlaced placed → ((a : ℕ) (rest : List Placed) → more a ≡ AllPlaced rest → AreFree (taken_by i a ∷ taken) items rest) → AreFree taken (i ∷ items) placed
    by None none done again = absurd (false≢true (ap are_placed done))
    by (Some a) some done again = by_rest a some (more a) refl done (again a)
