-- The least and the greatest of some numbers hang on which there are, and not on their order.
use Rattle.std.proofs.Common.{◌≡◌, ℕ, ◌≤◌, min, max, inl, inr, List, [], ◌∷◌, ◌++◌, map, arith, ap, sym, subst, ◌∙◌, refl}
use Rattle.std.specs.List.{Contains, fold}
use Rattle.std.proofs.lemmas.List.{map-append}
use Rattle.std.proofs.lemmas.List.Sums.{fold-append}
use Rattle.pci_spec.specs.Decoded.{Range as DecodedRange}
use Rattle.pci_spec.proofs.Members.{IsMade, in_nil, in_head, in_tail, in_cons_cases, in_map_to, in_map_from}
use Rattle.settle_spec.specs.Items.{Placed, taken_by}
use Rattle.settle_spec.proofs.Grown.{fold_min, fold_max}
use Rattle.settle_spec.proofs.SameTaken.{HaveSame}
use Rattle.pci_base.specs.declared.range.Range.{Range}
use Rattle.pci_base.specs.Ranges.{decoded_range_of}
use Rattle.pci_place.proofs.Owned.{map_twice}
use Rattle.pci_first_fit.specs.declared.item.Item.{Item}
use Rattle.pci_first_fit.specs.Own.{asked_item_value}
use Rattle.pci_first_fit.specs.Placings.{at_places}
use Rattle.pci_spec.specs.System.{System}
use Rattle.pci_spec.specs.Window.{WindowKind}
use Rattle.pci_grow.specs.There.{holding, placed_ranges}

min_each : (a : ℕ) (xs : List ℕ) (x : ℕ) → Contains xs x → fold min a xs ≤ x
min_each a [] x has = absurd (in_nil x has)
min_each a (y ∷ xs) x has = elim (in_cons_cases y xs x has) [
  | inl here ↦ (let rest = fold_min (min a y) xs in omega (arith, rest, here))
  | inr later ↦ min_each (min a y) xs x later
]

min_from : (m a : ℕ) (xs : List ℕ) → m ≤ a → ((x : ℕ) → Contains xs x → m ≤ x) → m ≤ fold min a xs
min_from m a [] low each = low
min_from m a (y ∷ xs) low each = min_from m (min a y) xs (let first = each y (in_head y xs) in omega (arith, low, first)) (λ x has. each x (in_tail y xs x has))

max_each : (a : ℕ) (xs : List ℕ) (x : ℕ) → Contains xs x → x ≤ fold max a xs
max_each a [] x has = absurd (in_nil x has)
max_each a (y ∷ xs) x has = elim (in_cons_cases y xs x has) [
  | inl here ↦ (let rest = fold_max (max a y) xs in omega (arith, rest, here))
  | inr later ↦ max_each (max a y) xs x later
]

max_from : (m a : ℕ) (xs : List ℕ) → a ≤ m → ((x : ℕ) → Contains xs x → x ≤ m) → fold max a xs ≤ m
max_from m a [] high each = high
max_from m a (y ∷ xs) high each = max_from m (max a y) xs (let first = each y (in_head y xs) in omega (arith, high, first)) (λ x has. each x (in_tail y xs x has))

-- the same numbers are in both lists
record HaveSameNumbers (xs ys : List ℕ) : Type 0 where
  to : (n : ℕ) → Contains xs n → Contains ys n
  back : (n : ℕ) → Contains ys n → Contains xs n

same_min : (a : ℕ) (xs ys : List ℕ) → HaveSameNumbers xs ys → fold min a xs ≡ fold min a ys
same_min a xs ys same =
    let low = min_from (fold min a xs) a ys (fold_min a xs) (λ n has. min_each a xs n (same.back n has)) in
    let high = min_from (fold min a ys) a xs (fold_min a ys) (λ n has. min_each a ys n (same.to n has)) in
    omega (arith, low, high)

same_max : (a : ℕ) (xs ys : List ℕ) → HaveSameNumbers xs ys → fold max a xs ≡ fold max a ys
same_max a xs ys same =
    let low = max_from (fold max a ys) a xs (fold_max a ys) (λ n has. max_each a ys n (same.to n has)) in
    let high = max_from (fold max a xs) a ys (fold_max a xs) (λ n has. max_each a xs n (same.back n has)) in
    omega (arith, low, high)

same_ends : (end : DecodedRange → ℕ) (xs ys : List DecodedRange) → HaveSame xs ys → HaveSameNumbers (map end xs) (map end ys)
same_ends end xs ys same = record {
  to = λ n has. (let made : IsMade end xs n = in_map_to end xs n has in subst (Contains (map end ys)) made.is (in_map_from end ys made.from (same.to made.from made.has)));
  back = λ n has. (let made : IsMade end ys n = in_map_to end ys n has in subst (Contains (map end xs)) made.is (in_map_from end xs made.from (same.back made.from made.has)));
}

-- ---- items at their places

pub ranges_are : (s : System) (c : WindowKind) (items : List Item) (places : List ℕ)
    → map decoded_range_of (placed_ranges items places) ≡ map (λ (p : Placed). taken_by p.item p.at) (at_places (map (asked_item_value s c) items) places)
ranges_are s c [] places = refl
ranges_are s c (i ∷ items) [] = refl
ranges_are s c (i ∷ items) (a ∷ places) = ap (λ rs. taken_by (asked_item_value s c i) a ∷ rs) (ranges_are s c items places)

-- ---- what holds a window, what is there and items at their places

module _ (w : Range) (class : List Range) (items : List Range) (there placed : List DecodedRange) (same : HaveSame (map decoded_range_of class) there) (placed_are : map decoded_range_of items ≡ placed) where
  abbrev all : Range
  all = holding (holding w class) items

  pub first_is : all.first ≡ fold min w.first (map (λ (r : DecodedRange). r.first) (there ++ placed))
  first_is =
      ap (λ n. fold min n (map (λ (r : Range). r.first) items))
      (ap (fold min w.first) (sym (map_twice (λ (r : DecodedRange). r.first) decoded_range_of class))
      ∙ same_min w.first (map (λ (r : DecodedRange). r.first) (map decoded_range_of class)) (map (λ (r : DecodedRange). r.first) there) (same_ends (λ r. r.first) (map decoded_range_of class) there same))
      ∙ ap (fold min (fold min w.first (map (λ (r : DecodedRange). r.first) there)))
      (sym (map_twice (λ (r : DecodedRange). r.first) decoded_range_of items) ∙ ap (map (λ (r : DecodedRange). r.first)) placed_are)
      ∙ sym (ap (fold min w.first) (map-append (λ (r : DecodedRange). r.first) there placed)
      ∙ fold-append min w.first (map (λ (r : DecodedRange). r.first) there) (map (λ (r : DecodedRange). r.first) placed))

  pub last_is : all.last ≡ fold max w.last (map (λ (r : DecodedRange). r.last) (there ++ placed))
  last_is =
      ap (λ n. fold max n (map (λ (r : Range). r.last) items))
      (ap (fold max w.last) (sym (map_twice (λ (r : DecodedRange). r.last) decoded_range_of class))
      ∙ same_max w.last (map (λ (r : DecodedRange). r.last) (map decoded_range_of class)) (map (λ (r : DecodedRange). r.last) there) (same_ends (λ r. r.last) (map decoded_range_of class) there same))
      ∙ ap (fold max (fold max w.last (map (λ (r : DecodedRange). r.last) there)))
      (sym (map_twice (λ (r : DecodedRange). r.last) decoded_range_of items) ∙ ap (map (λ (r : DecodedRange). r.last)) placed_are)
      ∙ sym (ap (fold max w.last) (map-append (λ (r : DecodedRange). r.last) there placed)
      ∙ fold-append max w.last (map (λ (r : DecodedRange). r.last) there) (map (λ (r : DecodedRange). r.last) placed))
