-- Items get their places one after another: those so far, and the rest with these taken.
use Rattle.std.proofs.Common.{◌≡◌, ℕ, zero, suc, ◌+◌, ◌<◌, ◌≤◌, inl, inr, List, [], ◌∷◌, ◌++◌, map, length, take, drop, set, get_or, arith, ap, sym, subst, ◌∙◌, refl, Option, None, Some}
use Rattle.std.specs.List.{All, Contains, insert}
use Rattle.std.proofs.lemmas.List.{at_drop_more, length-set, length-take, take-set-le, take_all}
use Rattle.std.proofs.lemmas.Grind.{take_at_read, get_or-set_at}
use Rattle.pci_spec.specs.Decoded.{Range as DecodedRange}
use Rattle.pci_spec.proofs.Members.{in_head, in_tail, in_cons_cases}
use Rattle.plan_spec.specs.Place.{range_from}
use Rattle.settle_spec.specs.FirstPlace.{Extent as ExtentValue, else_at}
use Rattle.settle_spec.specs.Items.{PlacingItem, Placed, Placing, AllPlaced, Lacks, and_placed, place_next, taken_by, place_each}
use Rattle.settle_spec.proofs.SameTaken.{HaveSame, same_cons, same_first_place}
use Rattle.pci_base.specs.declared.range.Range.{Range}
use Rattle.pci_base.specs.Ranges.{decoded_range_of}
use Rattle.pci_first_fit.specs.declared.placing.Wanted.{Wanted}
use Rattle.pci_first_fit.specs.Spots.{extent_value, AreRisingRanges, extent_range, IsTakenAt}
use Rattle.pci_first_fit.specs.Placings.{at_places, lacks_first, placing_of, HasListAt, wanted_place, IsWanted, AreWanted}

-- ---- some items placed before others

abbrev pub and_all : List Placed → Placing → Placing
and_all [] r = r
and_all (p ∷ ps) r = and_placed p.item p.at (and_all ps r)

pub all_append : (ps : List Placed) (p : Placed) (r : Placing) → and_all (ps ++ p ∷ []) r ≡ and_all ps (and_placed p.item p.at r)
all_append [] p r = refl
all_append (q ∷ ps) p r = ap (and_placed q.item q.at) (all_append ps p r)

pub all_lack : (ps : List Placed) (j : PlacingItem) → and_all ps (Lacks j) ≡ Lacks j
all_lack [] j = refl
all_lack (q ∷ ps) j = ap (and_placed q.item q.at) (all_lack ps j)

pub all_placed : (ps : List Placed) → and_all ps (AllPlaced []) ≡ AllPlaced ps
all_placed [] = refl
all_placed (q ∷ ps) = ap (and_placed q.item q.at) (all_placed ps)

pub at_append : (items : List PlacingItem) (places : List ℕ) (i : PlacingItem) (a : ℕ) → length items ≡ length places
    → at_places (items ++ i ∷ []) (places ++ a ∷ []) ≡ at_places items places ++ record { item = i; at = a } ∷ []
at_append [] [] i a same = refl
at_append [] (b ∷ places) i a same = absurd (let no : ⊥ = omega (arith, same) in no)
at_append (j ∷ items) [] i a same = absurd (let no : ⊥ = omega (arith, same) in no)
at_append (j ∷ items) (b ∷ places) i a same = ap (λ ps. record { item = j; at = b } ∷ ps) (at_append items places i a (omega (arith, same)))

-- ---- what is taken once one more was placed

pub put_same : (taken : List Range) (index : ℕ) (r : Range) → index ≤ length taken → HaveSame (decoded_range_of r ∷ map decoded_range_of taken) (map decoded_range_of (insert taken index r))
put_same taken zero r within = record { to = λ t listed. listed; back = λ t listed. listed }
put_same [] (suc index) r within = absurd (let no : ⊥ = omega (arith, within) in no)
put_same (x ∷ taken) (suc index) r within =
    let rest = put_same taken index r (omega (arith, within)) in
    record {
      to = λ t listed. elim (in_cons_cases (decoded_range_of r) (map decoded_range_of (x ∷ taken)) t listed) [
        | inl here ↦ in_tail (decoded_range_of x) (map decoded_range_of (insert taken index r)) t (rest.to t (subst (λ y. Contains (decoded_range_of r ∷ map decoded_range_of taken) y) here (in_head (decoded_range_of r) (map decoded_range_of taken))))
        | inr later ↦ elim (in_cons_cases (decoded_range_of x) (map decoded_range_of taken) t later) [
          | inl first ↦ subst (λ y. Contains (decoded_range_of x ∷ map decoded_range_of (insert taken index r)) y) first (in_head (decoded_range_of x) (map decoded_range_of (insert taken index r)))
          | inr further ↦ in_tail (decoded_range_of x) (map decoded_range_of (insert taken index r)) t (rest.to t (in_tail (decoded_range_of r) (map decoded_range_of taken) t further))
        ]
      ];
      back = λ t listed. elim (in_cons_cases (decoded_range_of x) (map decoded_range_of (insert taken index r)) t listed) [
        | inl here ↦ in_tail (decoded_range_of r) (map decoded_range_of (x ∷ taken)) t (subst (λ y. Contains (decoded_range_of x ∷ map decoded_range_of taken) y) here (in_head (decoded_range_of x) (map decoded_range_of taken)))
        | inr later ↦ elim (in_cons_cases (decoded_range_of r) (map decoded_range_of taken) t (rest.back t later)) [
          | inl first ↦ subst (λ y. Contains (decoded_range_of r ∷ map decoded_range_of (x ∷ taken)) y) first (in_head (decoded_range_of r) (map decoded_range_of (x ∷ taken)))
          | inr further ↦ in_tail (decoded_range_of r) (map decoded_range_of (x ∷ taken)) t (in_tail (decoded_range_of x) (map decoded_range_of taken) t further)
        ]
      ];
    }

-- ---- places that are found the same in any order of what is taken

abbrev pub FindsTheSame : (PlacingItem → List DecodedRange → Option ℕ) → PlacingItem → Type 0
FindsTheSame find i = (xs ys : List DecodedRange) → HaveSame xs ys → find i xs ≡ find i ys

next_same : (i : PlacingItem) (o : Option ℕ) (f g : ℕ → Placing) → ((a : ℕ) → f a ≡ g a) → place_next i o f ≡ place_next i o g
next_same i None f g same = refl
next_same i (Some a) f g same = ap (and_placed i a) (same a)

pub each_same_taken : (find : PlacingItem → List DecodedRange → Option ℕ) (items : List PlacingItem) (xs ys : List DecodedRange) → ((i : PlacingItem) → Contains items i → FindsTheSame find i) → HaveSame xs ys
    → place_each find xs items ≡ place_each find ys items
each_same_taken find [] xs ys finds same = refl
each_same_taken find (i ∷ items) xs ys finds same =
    ap (λ o. place_next i o (λ a. place_each find (taken_by i a ∷ xs) items)) (finds i (in_head i items) xs ys same)
    ∙ next_same i (find i ys) (λ a. place_each find (taken_by i a ∷ xs) items) (λ a. place_each find (taken_by i a ∷ ys) items)
    (λ a. each_same_taken find items (taken_by i a ∷ xs) (taken_by i a ∷ ys) (λ j listed. finds j (in_tail i items j listed)) (same_cons (taken_by i a) xs ys same))

-- with the same before them
pub same_behind : (off xs ys : List DecodedRange) → HaveSame xs ys → HaveSame (off ++ xs) (off ++ ys)
same_behind [] xs ys same = same
same_behind (t ∷ off) xs ys same = same_cons t (off ++ xs) (off ++ ys) (same_behind off xs ys same)

-- what is wanted is found so
pub wanted_same : (lists behind : List (List Range)) (find : PlacingItem → List DecodedRange → Option ℕ) (items : List PlacingItem) (wanted : List Wanted) (n : ℕ) → AreWanted lists behind find items wanted → All (HasListAt n) wanted → Wanted
    → (i : PlacingItem) → Contains items i → FindsTheSame find i
wanted_same lists behind find items wanted n are lawful w i (k, less, here) xs ys same =
    let long = are.count in
    let within : k < length wanted = omega (arith, less, long) in
    let own = get_or wanted k w in
    let is = are.each k i w within in
    let off = map decoded_range_of (get_or behind k []) in
    ap (λ j. find j xs) (sym here)
    ∙ is.place xs
    ∙ ap (else_at own.at) (same_first_place (map decoded_range_of (get_or lists own.list [])) (off ++ xs) (off ++ ys) (extent_value own.extent) (lawful k w within).extent.alignment (same_behind off xs ys same))
    ∙ sym (is.place ys)
    ∙ ap (λ j. find j ys) here

-- ---- the walk over the items

pub drop_all : (n : ℕ) (items : List PlacingItem) → length items ≤ n → drop n items ≡ []
drop_all zero [] past = refl
drop_all zero (i ∷ items) past = absurd (let no : ⊥ = omega (arith, past) in no)
drop_all (suc n) [] past = refl
drop_all (suc n) (i ∷ items) past = drop_all n items (omega (arith, past))

pub record IsSoFar (lists behind : List (List Range)) (start : List DecodedRange) (wanted : List Wanted) (taken : List Range) (places : List ℕ) (n : ℕ) : Type 0 where
  pub listed : AreRisingRanges taken
  pub count : length places ≡ length wanted
  pub so_far : (find : PlacingItem → List DecodedRange → Option ℕ) (items : List PlacingItem) → AreWanted lists behind find items wanted
      → place_each find start items ≡ and_all (at_places (take n items) (take n places)) (place_each find (map decoded_range_of taken) (drop n items))

pub so_far_none : (lists behind : List (List Range)) (wanted : List Wanted) (taken : List Range) (places : List ℕ) → AreRisingRanges taken → length places ≡ length wanted
    → IsSoFar lists behind (map decoded_range_of taken) wanted taken places 0
so_far_none lists behind wanted taken places listed count = record { listed = listed; count = count; so_far = λ find items are. refl }

in_drop : (n : ℕ) (items : List PlacingItem) (i : PlacingItem) → Contains (drop n items) i → Contains items i
in_drop zero items i listed = listed
in_drop (suc n) [] i listed = listed
in_drop (suc n) (j ∷ items) i listed = in_tail j items i (in_drop n items i listed)

pub take_table : (places : List ℕ) (n a : ℕ) → n < length places → take (n + 1) (set places n a) ≡ take n places ++ a ∷ []
take_table places n a within =
    let long = length-set places n a in
    (take_at_read (set places n a) n 0 (omega (arith, within, long))).1
    ∙ ap (λ xs. xs ++ get_or (set places n a) n 0 ∷ []) (take-set-le n places n a (omega arith))
    ∙ ap (λ x. take n places ++ x ∷ []) (get_or-set_at places n n a 0 refl within)

module _ (lists behind : List (List Range)) (start : List DecodedRange) (wanted : List Wanted) (taken : List Range) (places : List ℕ) (n : ℕ) (is : IsSoFar lists behind start wanted taken places n)
    (within : n < length wanted) (e : Wanted) (find : PlacingItem → List DecodedRange → Option ℕ) (items : List PlacingItem) (x : PlacingItem) (are : AreWanted lists behind find items wanted) where
  inside : n < length items
  inside = let same = are.count in omega (arith, same, within)

  abbrev next : PlacingItem
  next = get_or items n x

  abbrev now : List DecodedRange
  now = map decoded_range_of taken

  abbrev off : List DecodedRange
  off = map decoded_range_of (get_or behind n [])

  abbrev so : List Placed
  so = at_places (take n items) (take n places)

  own : IsWanted lists (get_or behind n []) find next (get_or wanted n e)
  own = are.each n x e within

  -- what the next item gets, before it is known
  next_is : (o : Option ℕ) → o ≡ wanted_place lists (off ++ now) (get_or wanted n e)
      → place_each find start items ≡ and_all so (place_next next o (λ b. place_each find (taken_by next b ∷ now) (drop (n + 1) items)))
  next_is o found =
      is.so_far find items are
      ∙ ap (and_all so) (at_drop_more (λ xs. place_each find now xs) items n x inside)
      ∙ ap (λ p. and_all so (place_next next p (λ b. place_each find (taken_by next b ∷ now) (drop (n + 1) items)))) (own.place now ∙ sym found)

  pub lacks_next : None ≡ wanted_place lists (off ++ now) (get_or wanted n e) → place_each find start items ≡ lacks_first (drop n items)
  lacks_next none = next_is None none ∙ all_lack so next ∙ sym (at_drop_more lacks_first items n x inside)

  pub places_next : (count : ℕ) → All (HasListAt count) wanted → (a : ℕ) → Some a ≡ wanted_place lists (off ++ now) (get_or wanted n e)
      → (new : List Range) → IsTakenAt taken new (get_or wanted n e).extent a
      → place_each find start items ≡ and_all (at_places (take (n + 1) items) (take (n + 1) (set places n a))) (place_each find (map decoded_range_of new) (drop (n + 1) items))
  places_next count lawful a found new put =
      let same : HaveSame (taken_by next a ∷ now) (map decoded_range_of new) =
      subst (λ (y : ExtentValue). HaveSame (range_from a y.size ∷ now) (map decoded_range_of new)) (sym own.extent)
      (subst (λ ys. HaveSame (decoded_range_of (extent_range (get_or wanted n e).extent a) ∷ now) (map decoded_range_of ys)) (sym put.put) (put_same taken put.index (extent_range (get_or wanted n e).extent a) put.within)) in
      let some : n < length places = (let count = is.count in omega (arith, count, within)) in
      let even : length (take n items) ≡ length (take n places) =
      (let l = length-take n items in let m = length-take n places in let less = inside in omega (arith, l, m, less, some)) in
      next_is (Some a) found
      ∙ ap (λ r. and_all so (and_placed next a r)) (each_same_taken find (drop (n + 1) items) (taken_by next a ∷ now) (map decoded_range_of new)
      (λ i listed. wanted_same lists behind find items wanted count are lawful e i (in_drop (n + 1) items i listed)) same)
      ∙ sym (all_append so (record { item = next; at = a }) (place_each find (map decoded_range_of new) (drop (n + 1) items)))
      ∙ ap (λ ps. and_all ps (place_each find (map decoded_range_of new) (drop (n + 1) items)))
      (sym (at_append (take n items) (take n places) next a even)
      ∙ ap (λ xs. at_places xs (take n places ++ a ∷ [])) (sym (take_at_read items n x inside).1)
      ∙ ap (at_places (take (n + 1) items)) (sym (take_table places n a some)))

pub so_far_next : (lists behind : List (List Range)) (start : List DecodedRange) (wanted : List Wanted) (taken : List Range) (places : List ℕ) (n count : ℕ)
    → IsSoFar lists behind start wanted taken places n → All (HasListAt count) wanted → n < length wanted → (e : Wanted) (a : ℕ)
    → Some a ≡ wanted_place lists (map decoded_range_of (get_or behind n []) ++ map decoded_range_of taken) (get_or wanted n e)
    → (new : List Range) → AreRisingRanges new → IsTakenAt taken new (get_or wanted n e).extent a
    → IsSoFar lists behind start wanted new (set places n a) (n + 1)
so_far_next lists behind start wanted taken places n count is lawful within e a found new listed put = record {
  listed = listed;
  count = length-set places n a ∙ is.count;
  so_far = λ find items are. by_items find items are;
}
  where
    by_items : (find : PlacingItem → List DecodedRange → Option ℕ) (items : List PlacingItem) → AreWanted lists behind find items wanted
        → place_each find start items ≡ and_all (at_places (take (n + 1) items) (take (n + 1) (set places n a))) (place_each find (map decoded_range_of new) (drop (n + 1) items))
    by_items find [] are = absurd (let long = are.count in let no : ⊥ = omega (arith, long, within) in no)
    by_items find (x ∷ items) are = places_next lists behind start wanted taken places n is within e find (x ∷ items) x are count lawful a found new put

pub so_far_lacks : (lists behind : List (List Range)) (start : List DecodedRange) (wanted : List Wanted) (taken : List Range) (places : List ℕ) (n : ℕ)
    → IsSoFar lists behind start wanted taken places n → n < length wanted → (e : Wanted)
    → None ≡ wanted_place lists (map decoded_range_of (get_or behind n []) ++ map decoded_range_of taken) (get_or wanted n e)
    → (find : PlacingItem → List DecodedRange → Option ℕ) (items : List PlacingItem) → AreWanted lists behind find items wanted → place_each find start items ≡ placing_of items places (Some n)
so_far_lacks lists behind start wanted taken places n is within e none find [] are = absurd (let long = are.count in let no : ⊥ = omega (arith, long, within) in no)
so_far_lacks lists behind start wanted taken places n is within e none find (x ∷ items) are = lacks_next lists behind start wanted taken places n is within e find (x ∷ items) x are none

pub so_far_all : (lists behind : List (List Range)) (start : List DecodedRange) (wanted : List Wanted) (taken : List Range) (places : List ℕ) (n : ℕ)
    → IsSoFar lists behind start wanted taken places n → length wanted ≤ n
    → (find : PlacingItem → List DecodedRange → Option ℕ) (items : List PlacingItem) → AreWanted lists behind find items wanted → place_each find start items ≡ placing_of items places None
so_far_all lists behind start wanted taken places n is past find items are =
    let long = are.count in
    let count = is.count in
    is.so_far find items are
    ∙ ap (λ xs. and_all (at_places (take n items) (take n places)) (place_each find (map decoded_range_of taken) xs)) (drop_all n items (omega (arith, long, past)))
    ∙ all_placed (at_places (take n items) (take n places))
    ∙ ap (λ xs. AllPlaced (at_places xs (take n places))) (take_all n items (omega (arith, long, past)))
    ∙ ap (λ xs. AllPlaced (at_places items xs)) (take_all n places (omega (arith, count, past)))
