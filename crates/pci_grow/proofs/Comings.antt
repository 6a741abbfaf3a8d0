-- What a window comes to, by the items that are listed and the places that are found for them.
use Rattle.std.proofs.Common.{◌≡◌, ℕ, ◌⊎◌, inl, inr, min, max, List, ◌++◌, map, true, false, refl, ap, sym, ◌∙◌, Option, None, Some}
use Rattle.std.specs.List.{All, fold}
use Rattle.std.specs.Option.{is_some}
use Rattle.std.proofs.lemmas.Bool.{both_ways}
use Rattle.std.proofs.lemmas.List.{length-map, get_or-map}
use Rattle.pci_spec.specs.Window.{WindowKind}
use Rattle.pci_spec.specs.Decoded.{Range as DecodedRange}
use Rattle.pci_spec.specs.System.{System, Function, window_space}
use Rattle.pci_spec.specs.Bus.{secondary}
use Rattle.plan_spec.specs.Plan.{same_class}
use Rattle.settle_spec.specs.Lines.{lines_on, lines_behind, taken_for}
use Rattle.settle_spec.specs.Lists.{Request}
use Rattle.settle_spec.specs.Parts.{FunctionPart, addresses, class_in, are_same_space}
use Rattle.settle_spec.specs.Stands.{part_space, window_part}
use Rattle.settle_spec.specs.Items.{PlacingItem as ItemValue, Placed, Placing, AllPlaced, Lacks, are_placed, taken_by, bus_items, new_window, place_each}
use Rattle.settle_spec.specs.Reach.{reach}
use Rattle.settle_spec.specs.Growth.{place_around, grown_to, grown_around, there_on, taken_around, window_comes_to}
use Rattle.settle_spec.proofs.SameTaken.{HaveSame}
use Rattle.pci_base.specs.declared.range.Range.{Range}
use Rattle.pci_base.specs.Ranges.{decoded_range_of}
use Rattle.pci_first_fit.specs.declared.item.Item.{Item}
use Rattle.pci_first_fit.specs.Own.{asked_item_value}
use Rattle.pci_first_fit.specs.Placings.{at_places}
use Rattle.pci_first_fit.specs.Turns.{HasExtent}
use Rattle.pci_grow.specs.declared.around.Around.{Around}
use Rattle.pci_grow.specs.Grounds.{Ground, AreAlike}
use Rattle.pci_grow.specs.Arounds.{find_around, HaveExtents, HaveBehind, ArePlacesAround, HaveNoPlaces}
use Rattle.pci_grow.specs.There.{holding, placed_ranges}
use Rattle.pci_grow.proofs.AlikeTaken.{alike_swap}
use Rattle.pci_grow.proofs.Each.{alike_each, lawful_values}
use Rattle.pci_grow.proofs.Folds.{ranges_are, first_is, last_is}

-- where not all are placed a window comes to nothing
none_comes : (c : WindowKind) (w : DecodedRange) (others : List DecodedRange) (p : Placing) → are_placed p ≡ false → grown_around c w others p ≡ None
none_comes c w others (Lacks i) off = refl
none_comes c w others (AllPlaced placed) off = absurd (both_ways true off refl)

-- items stand for others: they are those, or in both are some that have no place around a window
abbrev pub StandFor : (ItemValue → List DecodedRange) → Around → List ItemValue → List ItemValue → Type 0
StandFor behind a xs ys =
    (xs ≡ ys)
    ⊎ ((taken : List DecodedRange) → (are_placed (place_each (find_around behind a) taken xs) ≡ false) × (are_placed (place_each (find_around behind a) taken ys) ≡ false))

-- what lines hold behind an item
abbrev pub behind_item : Request → ItemValue → List DecodedRange
behind_item q i = lines_behind q i.region

module _ (q : Request) (s : System) (c : WindowKind) (f : Function) (told : FunctionPart → Option DecodedRange)
    (a : Around) (window_is : decoded_range_of a.window ≡ addresses (window_part c f)) (reach_is : decoded_range_of a.reach ≡ reach q s c f)
    (g : Ground) (items : List Item) (lawful : All HasExtent items) (d : Item) (off : HaveBehind g (behind_item q) (map (asked_item_value s c) items) items)
    (turn : StandFor (behind_item q) a (map (asked_item_value s c) items) (bus_items q s c (λ r. is_some (told r)) (new_window q s c) (secondary f)))
    (taken : List Range) (there : AreAlike (map decoded_range_of taken) (lines_on q (window_space c) (secondary f) ++ there_on q s told (λ r. are_same_space (window_space c) (part_space r)) (secondary f))) where
  abbrev find : ItemValue → List DecodedRange → Option ℕ
  find = find_around (behind_item q) a

  abbrev values : List ItemValue
  values = map (asked_item_value s c) items

  abbrev real : List ItemValue
  real = bus_items q s c (λ r. is_some (told r)) (new_window q s c) (secondary f)

  abbrev there_taken : List DecodedRange
  there_taken = lines_on q (window_space c) (secondary f) ++ there_on q s told (λ r. are_same_space (window_space c) (part_space r)) (secondary f)

  abbrev others : List DecodedRange
  others = there_on q s told (λ r. same_class c (class_in q s r.function r.part)) (secondary f)

  abbrev w : DecodedRange
  w = addresses (window_part c f)

  extents : HaveExtents values items
  extents = record {
    count = length-map items (asked_item_value s c);
    each = λ k i x less. (
        ap (λ (v : ItemValue). v.extent) (get_or-map (asked_item_value s c) items k x i less));
  }

  around_is : (xs : List DecodedRange) (is : List ItemValue) → place_each find xs is ≡ place_each (λ i taken. place_around w (reach q s c f) (taken_for q i.region taken) i.extent) xs is
  around_is xs is =
      ap (λ x. place_each (λ i taken. place_around x (decoded_range_of a.reach) (taken_for q i.region taken) i.extent) xs is) window_is
      ∙ ap (λ x. place_each (λ i taken. place_around w x (taken_for q i.region taken) i.extent) xs is) reach_is

  found : place_each find there_taken values ≡ place_each find (map decoded_range_of taken) values
  found = alike_each (behind_item q) a values there_taken (map decoded_range_of taken) (lawful_values values items extents lawful d) (alike_swap (map decoded_range_of taken) there_taken there)

  taken_same : values ≡ real → taken_around q s told c f ≡ place_each find (map decoded_range_of taken) values
  taken_same same = sym (around_is there_taken real) ∙ ap (place_each find there_taken) (sym same) ∙ found

  by_placed : (p : Placing) → are_placed p ≡ false → taken_around q s told c f ≡ p → window_comes_to q s told c f ≡ None
  by_placed p lacks is = ap (grown_around c w others) is ∙ none_comes c w others p lacks

  none_by : are_placed (place_each find there_taken real) ≡ false → window_comes_to q s told c f ≡ None
  none_by lacks = by_placed (place_each find there_taken real) lacks (sym (around_is there_taken real))

  -- one that has no place
  pub comes_none : HaveNoPlaces a g taken items → window_comes_to q s told c f ≡ None
  comes_none none = elim turn [
    | inl same ↦ by_placed (place_each find (map decoded_range_of taken) values) (none values (behind_item q) extents off) (taken_same same)
    | inr both ↦ none_by (both there_taken).1
  ]

  module _ (places : List ℕ) (are : ArePlacesAround a g taken items places) where
    -- all have places
    all_placed : taken_around q s told c f ≡ AllPlaced (at_places values places)
    all_placed = elim turn [
      | inl same ↦ taken_same same ∙ are.placing values (behind_item q) extents off
      | inr both ↦ absurd (both_ways true (sym (ap are_placed (found ∙ are.placing values (behind_item q) extents off)) ∙ (both there_taken).0) refl)
    ]

    abbrev placed_at : List DecodedRange
    placed_at = map (λ (p : Placed). taken_by p.item p.at) (at_places values places)

    pub comes_some : (class : List Range) → HaveSame (map decoded_range_of class) others
        → (range : Range) → ((others : List DecodedRange)
        → (holding (holding a.window class) (placed_ranges items places)).first ≡ fold min a.window.first (map (λ (r : DecodedRange). r.first) others)
        → (holding (holding a.window class) (placed_ranges items places)).last ≡ fold max a.window.last (map (λ (r : DecodedRange). r.last) others)
        → decoded_range_of range ≡ grown_to c (decoded_range_of a.window) others)
        → (window_comes_to q s told c f ≡ Some (decoded_range_of range)) × (taken_around q s told c f ≡ AllPlaced (at_places values places))
    comes_some class same range grown = (
      ap (grown_around c w others) all_placed
          ∙ ap (λ x. Some (grown_to c x (others ++ placed_at))) (sym window_is)
          ∙ ap Some (sym (grown (others ++ placed_at)
          (first_is a.window class (placed_ranges items places) others placed_at same (ranges_are s c items places))
          (last_is a.window class (placed_ranges items places) others placed_at same (ranges_are s c items places)))),
      all_placed,
    )
