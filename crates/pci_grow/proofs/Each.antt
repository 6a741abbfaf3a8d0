-- Items get their places around a window one after another: those so far, and the rest with these taken.
use Rattle.std.proofs.Common.{◌≡◌, ℕ, zero, suc, ◌+◌, ◌-◌, ◌^◌, ◌<◌, ◌≤◌, inl, inr, List, [], ◌∷◌, ◌++◌, map, length, take, drop, set, get_or, arith, ap, sym, subst, ◌∙◌, refl, Option, None, Some, IfSome}
use Rattle.std.specs.List.{All, Contains}
use Rattle.std.proofs.lemmas.Bool.{cases_eq}
use Rattle.std.proofs.lemmas.List.{at_drop_more, length-set, length-take, take_all, get_or-set_same, get_or-set_other, get_or_default}
use Rattle.std.proofs.lemmas.Grind.{take_at_read}
use Rattle.pci_spec.specs.Decoded.{Range as DecodedRange}
use Rattle.pci_spec.proofs.Members.{in_head, in_tail}
use Rattle.plan_spec.specs.Place.{range_from}
use Rattle.settle_spec.specs.FirstPlace.{Extent as ExtentValue}
use Rattle.settle_spec.specs.Items.{PlacingItem as ItemValue, Placed, AllPlaced, and_placed, place_next, taken_by, place_each}
use Rattle.settle_spec.specs.Growth.{place_around}
use Rattle.settle_spec.proofs.SameTaken.{HaveSame}
use Rattle.pci_base.specs.declared.range.Range.{Range}
use Rattle.pci_base.specs.Ranges.{decoded_range_of}
use Rattle.pci_first_fit.specs.declared.extent.Extent.{Extent}
use Rattle.pci_first_fit.specs.declared.item.Item.{Item}
use Rattle.pci_first_fit.specs.Spots.{extent_value, extent_range, IsPutIn}
use Rattle.pci_first_fit.specs.Placings.{at_places, lacks_first, placing_of}
use Rattle.pci_first_fit.specs.Turns.{HasExtent}
use Rattle.pci_first_fit.proofs.AllPlaced.{and_all, all_append, all_lack, all_placed, at_append, put_same, drop_all, take_table}
use Rattle.pci_grow.specs.declared.around.Around.{Around}
use Rattle.pci_grow.specs.Arounds.{find_around, AreRisingAtBothEnds, IsPutAt, HaveExtents, AreEndingAll, HaveBehind}
use Rattle.pci_grow.specs.Grounds.{Ground, IsBehindItem, AreAlike}
use Rattle.pci_grow.proofs.AlikeTaken.{alike_same, alike_append, alike_cons, alike_around}

pub at_some : (P : ℕ → Type 0) (o : Option ℕ) (a : ℕ) → o ≡ Some a → IfSome o P → P a
at_some P o a is all = subst (λ x. IfSome x P) is all

-- all of them are lawful
abbrev pub AreLawful : List ItemValue → Type 0
AreLawful items = (i : ItemValue) → Contains items i → (0 < i.extent.size) × (0 < i.extent.alignment)

module _ (behind : ItemValue → List DecodedRange) (a : Around) where
  abbrev find : ItemValue → List DecodedRange → Option ℕ
  find = find_around behind a

  same_next : (i : ItemValue) (items : List ItemValue) (xs ys : List DecodedRange) (o : Option ℕ)
      → ((b : ℕ) → place_each find (taken_by i b ∷ xs) items ≡ place_each find (taken_by i b ∷ ys) items)
      → place_next i o (λ b. place_each find (taken_by i b ∷ xs) items) ≡ place_next i o (λ b. place_each find (taken_by i b ∷ ys) items)
  same_next i items xs ys None same = refl
  same_next i items xs ys (Some b) same = ap (and_placed i b) (same b)

  pub alike_each : (items : List ItemValue) (xs ys : List DecodedRange) → AreLawful items → AreAlike xs ys → place_each find xs items ≡ place_each find ys items
  alike_each [] xs ys lawful alike = refl
  alike_each (i ∷ items) xs ys lawful alike =
      ap (λ p. place_next i p (λ b. place_each find (taken_by i b ∷ xs) items))
      (alike_around (decoded_range_of a.window) (decoded_range_of a.reach) i.extent (behind i ++ xs) (behind i ++ ys) (lawful i (in_head i items)).0 (lawful i (in_head i items)).1 (alike_append (behind i) xs ys alike))
      ∙ same_next i items xs ys (find i ys) (λ b. alike_each items (taken_by i b ∷ xs) (taken_by i b ∷ ys) (λ j listed. lawful j (in_tail i items j listed)) (alike_cons (taken_by i b) xs ys alike))

-- ---- the walk over the items

pub record IsEachSoFar (a : Around) (g : Ground) (start : List DecodedRange) (items : List Item) (taken : List Range) (places : List ℕ) (n : ℕ) : Type 0 where
  pub listed : AreRisingAtBothEnds taken
  pub count : length places ≡ length items
  pub ends : AreEndingAll items places n
  pub so_far : (values : List ItemValue) (behind : ItemValue → List DecodedRange) → HaveExtents values items → HaveBehind g behind values items
      → place_each (find_around behind a) start values ≡ and_all (at_places (take n values) (take n places)) (place_each (find_around behind a) (map decoded_range_of taken) (drop n values))

pub each_none : (a : Around) (g : Ground) (items : List Item) (taken : List Range) (places : List ℕ) → AreRisingAtBothEnds taken → length places ≡ length items → IsEachSoFar a g (map decoded_range_of taken) items taken places 0
each_none a g items taken places listed count = record {
  listed = listed;
  count = count;
  ends = λ k c less. absurd (let no : ⊥ = omega (arith, less) in no);
  so_far = λ values behind are off. refl;
}

in_drop : (n : ℕ) (items : List ItemValue) (i : ItemValue) → Contains (drop n items) i → Contains items i
in_drop zero items i listed = listed
in_drop (suc n) [] i listed = listed
in_drop (suc n) (j ∷ items) i listed = in_tail j items i (in_drop n items i listed)

pub lawful_values : (values : List ItemValue) (items : List Item) → HaveExtents values items → All HasExtent items → Item → AreLawful values
lawful_values values items are lawful c i (k, less, here) =
    let long = are.count in
    let within : k < length items = omega (arith, less, long) in
    let same : i.extent ≡ extent_value (get_or items k c).extent = ap (λ (v : ItemValue). v.extent) (sym here) ∙ are.each k i c within in
    (subst (λ x. 0 < x.size) (sym same) (lawful k c within).size, subst (λ x. 0 < x.alignment) (sym same) (lawful k c within).alignment)

-- what is found for an item, off what lines hold behind it
abbrev pub IsFound : Around → Ground → List Range → Item → Option ℕ → Type 0
IsFound a g taken i o =
    (held : List DecodedRange) → IsBehindItem g i held
    → o ≡ place_around (decoded_range_of a.window) (decoded_range_of a.reach) (held ++ map decoded_range_of taken) (extent_value i.extent)

module _ (a : Around) (g : Ground) (start : List DecodedRange) (items : List Item) (taken : List Range) (places : List ℕ) (n : ℕ) (is : IsEachSoFar a g start items taken places n)
    (within : n < length items) (c : Item) (values : List ItemValue) (x : ItemValue) (behind : ItemValue → List DecodedRange) (are : HaveExtents values items) (off : HaveBehind g behind values items) where
  abbrev look : ItemValue → List DecodedRange → Option ℕ
  look = find_around behind a

  inside : n < length values
  inside = let same = are.count in omega (arith, same, within)

  abbrev next : ItemValue
  next = get_or values n x

  abbrev now : List DecodedRange
  now = map decoded_range_of taken

  abbrev so : List Placed
  so = at_places (take n values) (take n places)

  abbrev own : Extent
  own = (get_or items n c).extent

  abbrev found_for : ExtentValue → Option ℕ
  found_for e = place_around (decoded_range_of a.window) (decoded_range_of a.reach) (behind next ++ now) e

  next_is : (o : Option ℕ) → IsFound a g taken (get_or items n c) o
      → place_each look start values ≡ and_all so (place_next next o (λ b. place_each look (taken_by next b ∷ now) (drop (n + 1) values)))
  next_is o found =
      is.so_far values behind are off
      ∙ ap (and_all so) (at_drop_more (λ xs. place_each look now xs) values n x inside)
      ∙ ap (λ p. and_all so (place_next next p (λ b. place_each look (taken_by next b ∷ now) (drop (n + 1) values))))
      (ap found_for (are.each n x c within) ∙ sym (found (behind next) (off n x c within)))

  pub each_lacks : IsFound a g taken (get_or items n c) None → place_each look start values ≡ lacks_first (drop n values)
  each_lacks none = next_is None none ∙ all_lack so next ∙ sym (at_drop_more lacks_first values n x inside)

  pub each_placed : All HasExtent items → (at : ℕ) → IsFound a g taken (get_or items n c) (Some at) → (new : List Range) → IsPutAt taken new own at
      → place_each look start values ≡ and_all (at_places (take (n + 1) values) (take (n + 1) (set places n at))) (place_each look (map decoded_range_of new) (drop (n + 1) values))
  each_placed lawful at found new put =
      let s = put.spot in
      let there : IsPutIn taken new own s = put.put in
      let at_spot : HaveSame (taken_by next s.at ∷ now) (map decoded_range_of new) =
      subst (λ (y : ExtentValue). HaveSame (range_from s.at y.size ∷ now) (map decoded_range_of new)) (sym (are.each n x c within))
      (subst (λ ys. HaveSame (decoded_range_of (extent_range own s.at) ∷ now) (map decoded_range_of ys)) (sym there.put) (put_same taken s.index (extent_range own s.at) there.between.within)) in
      let same : HaveSame (taken_by next at ∷ now) (map decoded_range_of new) = subst (λ b. HaveSame (taken_by next b ∷ now) (map decoded_range_of new)) put.at_is at_spot in
      let some : n < length places = (let count = is.count in omega (arith, count, within)) in
      let even : length (take n values) ≡ length (take n places) =
      (let l = length-take n values in let m = length-take n places in let less = inside in omega (arith, l, m, less, some)) in
      next_is (Some at) found
      ∙ ap (λ r. and_all so (and_placed next at r)) (alike_each behind a (drop (n + 1) values) (taken_by next at ∷ now) (map decoded_range_of new)
      (λ i listed. lawful_values values items are lawful c i (in_drop (n + 1) values i listed)) (alike_same (taken_by next at ∷ now) (map decoded_range_of new) same))
      ∙ sym (all_append so (record { item = next; at = at }) (place_each look (map decoded_range_of new) (drop (n + 1) values)))
      ∙ ap (λ ps. and_all ps (place_each look (map decoded_range_of new) (drop (n + 1) values)))
      (sym (at_append (take n values) (take n places) next at even)
      ∙ ap (λ xs. at_places xs (take n places ++ at ∷ [])) (sym (take_at_read values n x inside).1)
      ∙ ap (at_places (take (n + 1) values)) (sym (take_table places n at some)))

module _ (a : Around) (g : Ground) (start : List DecodedRange) (items : List Item) (taken : List Range) (places : List ℕ) (n : ℕ) (is : IsEachSoFar a g start items taken places n) where
  pub each_next : (within : n < length items) (c : Item) → All HasExtent items → (at : ℕ) → IsFound a g taken (get_or items n c) (Some at)
      → (new : List Range) → AreRisingAtBothEnds new → IsPutAt taken new (get_or items n c).extent at → IsEachSoFar a g start items new (set places n at) (n + 1)
  each_next within c lawful at found new listed put = record {
    listed = listed;
    count = length-set places n at ∙ is.count;
    ends = λ k d less. elim (cases_eq k n) [
      | inl same ↦
          let some : n < length places = (let count = is.count in omega (arith, count, within)) in
          let here : get_or (set places n at) k 0 ≡ at = ap (λ m. get_or (set places n at) m 0) same ∙ get_or-set_same places n at 0 some in
          let one : get_or items k d ≡ get_or items n c = ap (λ m. get_or items m d) same ∙ get_or_default items n d c within in
          let low : at + ((get_or items n c).extent.size - 1) < 2 ^ 64 = subst (λ b. b + ((get_or items n c).extent.size - 1) < 2 ^ 64) put.at_is put.put.between.ends in
          subst (λ (i : Item). get_or (set places n at) k 0 + (i.extent.size - 1) < 2 ^ 64) (sym one) (subst (λ b. b + ((get_or items n c).extent.size - 1) < 2 ^ 64) (sym here) low)
      | inr other ↦ subst (λ b. b + ((get_or items k d).extent.size - 1) < 2 ^ 64) (sym (get_or-set_other places n k at 0 other)) (is.ends k d (omega (arith, less, other)))
    ];
    so_far = by_values;
  }
    where
      by_values : (values : List ItemValue) (behind : ItemValue → List DecodedRange) → HaveExtents values items → HaveBehind g behind values items
          → place_each (find_around behind a) start values ≡ and_all (at_places (take (n + 1) values) (take (n + 1) (set places n at))) (place_each (find_around behind a) (map decoded_range_of new) (drop (n + 1) values))
      by_values [] behind are off = absurd (let long = are.count in let no : ⊥ = omega (arith, long, within) in no)
      by_values (x ∷ values) behind are off = each_placed a g start items taken places n is within c (x ∷ values) x behind are off lawful at found new put

  pub each_ends : (within : n < length items) (c : Item) → IsFound a g taken (get_or items n c) None
      → (values : List ItemValue) (behind : ItemValue → List DecodedRange) → HaveExtents values items → HaveBehind g behind values items → place_each (find_around behind a) start values ≡ placing_of values places (Some n)
  each_ends within c none [] behind are off = absurd (let long = are.count in let no : ⊥ = omega (arith, long, within) in no)
  each_ends within c none (x ∷ values) behind are off = each_lacks a g start items taken places n is within c (x ∷ values) x behind are off none

  pub each_all : length items ≤ n → (values : List ItemValue) (behind : ItemValue → List DecodedRange) → HaveExtents values items → HaveBehind g behind values items → place_each (find_around behind a) start values ≡ placing_of values places None
  each_all past values behind are off =
      let long = are.count in
      let count = is.count in
      is.so_far values behind are off
      ∙ ap (λ xs. and_all (at_places (take n values) (take n places)) (place_each (find_around behind a) (map decoded_range_of taken) xs)) (drop_all n values (omega (arith, long, past)))
      ∙ all_placed (at_places (take n values) (take n places))
      ∙ ap (λ xs. AllPlaced (at_places xs (take n places))) (take_all n values (omega (arith, long, past)))
      ∙ ap (λ xs. AllPlaced (at_places values xs)) (take_all n places (omega (arith, count, past)))
