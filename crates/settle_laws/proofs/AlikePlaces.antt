-- In two systems that are alike everything gets the same place, where all is placed anew.
use Rattle.std.proofs.Common.{◌≡◌, true, false, inl, inr, map, Bool, ℕ, zero, suc, List, [], ◌∷◌, ◌++◌, ◌&&◌, refl, sym, ◌∙◌, ap, subst, Option, None, Some}
use Rattle.std.specs.Bool.{IsTrue, ◌==◌, if◌then◌else◌}
use Rattle.std.specs.List.{AllZip, Contains, filter}
use Rattle.std.specs.Option.{is_some}
use Rattle.pci_spec.specs.Window.{WindowKind, IoWindow, MemoryWindow, PrefetchWindow}
use Rattle.pci_spec.specs.Decoded.{Range}
use Rattle.pci_spec.specs.System.{System, Function, Space, Io, Memory, Part, space_of, is_bridge, is_window}
use Rattle.pci_spec.specs.Bus.{secondary, is_behind, is_root}
use Rattle.plan_spec.specs.Place.{range_from}
use Rattle.settle_spec.specs.FirstPlace.{Extent, first_place, is_high}
use Rattle.settle_spec.specs.Lists.{Request, class_ranges}
use Rattle.settle_spec.specs.Parts.{FunctionPart, bridge_over, are_same_space}
use Rattle.settle_spec.specs.Stands.{rank, window_part}
use Rattle.settle_spec.specs.Items.{PlacingItem, Placed, Placing, AllPlaced, Lacks, and_placed, place_next, place_each, taken_by, bus_items, new_window}
use Rattle.settle_spec.specs.Places.{wide_ranges, root_ranges, placed_of, place_among, placed_range, first_lack}
use Rattle.settle_spec.specs.Keeping.Places.{space_items, placing_within, placing_on, new_place, lacking_on, lacking}
use Rattle.std.proofs.Math.Path.{fun_ext}
use Rattle.std.proofs.lemmas.Bool.{both_ways, cases_Bool}
use Rattle.pci_spec.proofs.Members.{in_head, in_tail}
use Rattle.judge_spec.specs.ToldRegion.{ToldRegion, told_regions}
use Rattle.settle_spec.specs.Lines.{line_bus, line_range, is_line_behind, lines_behind, lines_on}
use Rattle.settle_laws.proofs.Anew.{new_ranges, ranges_anew}
use Rattle.settle_laws.proofs.ItemForms.{IsPlaceable, IsOwnPart, IsNewWindow}
use Rattle.settle_laws.proofs.Keeping.Items.{space_items_are}
use Rattle.settle_laws.proofs.Told.AnewPlaces.{find_anew, placing_off}
use Rattle.settle_laws.proofs.Zipped.{BothOrNone, both_some, append_zip, find_zip}
use Rattle.settle_laws.proofs.Alike.{IsAlike, IsAlikeRegion, behind_alike, bus_alike, of_bridges, space_alike}
use Rattle.settle_laws.proofs.AlikeItems.{IsAlikeItem, rank_same, items_alike, windows_alike}
use Rattle.settle_spec.specs.Kept.{Kept}

pub record IsAlikePlaced (x y : Placed) : Type 0 where
  pub item : IsAlikeItem x.item y.item
  pub at : x.at ≡ y.at

abbrev ArePlacedAlike : Placing → Placing → Type 0
ArePlacedAlike (AllPlaced xs) (AllPlaced ys) = AllZip IsAlikePlaced xs ys
ArePlacedAlike (AllPlaced xs) (Lacks j) = ⊥
ArePlacedAlike (Lacks i) (AllPlaced ys) = ⊥
ArePlacedAlike (Lacks i) (Lacks j) = IsAlikeItem i j

placed_alike : (x y : Placing) → ArePlacedAlike x y → AllZip IsAlikePlaced (placed_of x) (placed_of y)
placed_alike (AllPlaced xs) (AllPlaced ys) alike = alike
placed_alike (AllPlaced xs) (Lacks j) alike = absurd alike
placed_alike (Lacks i) (AllPlaced ys) alike = absurd alike
placed_alike (Lacks i) (Lacks j) alike = tt

-- ---- one after another

and_alike : (i j : PlacingItem) → IsAlikeItem i j → (a : ℕ) (x y : Placing) → ArePlacedAlike x y → ArePlacedAlike (and_placed i a x) (and_placed j a y)
and_alike i j is a (AllPlaced xs) (AllPlaced ys) alike = (record { item = is; at = refl }, alike)
and_alike i j is a (AllPlaced xs) (Lacks k) alike = absurd alike
and_alike i j is a (Lacks k) (AllPlaced ys) alike = absurd alike
and_alike i j is a (Lacks k) (Lacks l) alike = alike

next_alike : (i j : PlacingItem) → IsAlikeItem i j → (o : Option ℕ) (rest more : ℕ → Placing) → ((a : ℕ) → ArePlacedAlike (rest a) (more a)) → ArePlacedAlike (place_next i o rest) (place_next j o more)
next_alike i j is None rest more same = is
next_alike i j is (Some a) rest more same = and_alike i j is a (rest a) (more a) (same a)

each_alike : (find other : PlacingItem → List Range → Option ℕ) (taken : List Range) (xs ys : List PlacingItem) → ((i j : PlacingItem) (zs : List Range) → Contains xs i → IsAlikeItem i j → find i zs ≡ other j zs) → AllZip IsAlikeItem xs ys
    → ArePlacedAlike (place_each find taken xs) (place_each other taken ys)
each_alike find other taken [] [] same pairs = tt
each_alike find other taken [] (y ∷ ys) same pairs = absurd pairs
each_alike find other taken (x ∷ xs) [] same pairs = absurd pairs
each_alike find other taken (x ∷ xs) (y ∷ ys) same (first, pairs) =
    let rest = λ (a : ℕ). place_each find (taken_by x a ∷ taken) xs in
    let more = λ (a : ℕ). place_each other (taken_by y a ∷ taken) ys in
    let extent = first.extent in
    subst (λ o. ArePlacedAlike (place_next x (find x taken) rest) (place_next y o more)) (same x y taken (in_head x xs) first)
    (next_alike x y first (find x taken) rest more
    (λ a. subst (λ r. ArePlacedAlike (place_each find (taken_by x a ∷ taken) xs) (place_each other (r ∷ taken) ys)) (ap (λ (e : Extent). range_from a e.size) extent)
    (each_alike find other (taken_by x a ∷ taken) xs ys (λ i j zs has. same i j zs (in_tail x xs i has)) pairs)))

range_alike : (o p : Option Placed) → BothOrNone IsAlikePlaced o p → placed_range o ≡ placed_range p
range_alike None None both = refl
range_alike None (Some y) both = absurd both
range_alike (Some x) None both = absurd both
range_alike (Some x) (Some y) both =
    let at = both.at in
    let extent = both.item.extent in
    λ i. range_from (at i) (extent i).size ∷ []

among_alike : (r t : FunctionPart) → IsAlikeRegion r t → (xs ys : List Placed) → AllZip IsAlikePlaced xs ys → BothOrNone IsAlikePlaced (place_among r xs) (place_among t ys)
among_alike r t is xs ys pairs =
    find_zip IsAlikePlaced (λ (p : Placed). rank p.item.region == rank r) (λ (p : Placed). rank p.item.region == rank t)
    (λ x y alike. let first = rank_same x.item.region y.item.region alike.item.region in let second = rank_same r t is in λ i. first i == second i) xs ys pairs

module _ (q : Request) (anew : IsTrue q.anew) (s t : System) (pairs : AllZip IsAlike s t) (k j : Kept) (none : (r : FunctionPart) → k.stays r ≡ false) (no_other : (r : FunctionPart) → j.stays r ≡ false) where
  -- ---- the ranges of an item

  module _ (placed others : ℕ → List Placed) (same : (bus : ℕ) → AllZip IsAlikePlaced (placed bus) (others bus)) where
    window_alike : (c : WindowKind) (o p : Option Function) → BothOrNone IsAlike o p → new_ranges placed c o ≡ new_ranges others c p
    window_alike c None None both = refl
    window_alike c None (Some d) both = absurd both
    window_alike c (Some b) None both = absurd both
    window_alike c (Some b) (Some d) both =
        range_alike (place_among (window_part c b) (placed b.slot.bus)) (place_among (window_part c d) (others b.slot.bus))
        (among_alike (window_part c b) (window_part c d) record { function = both; part = refl } (placed b.slot.bus) (others b.slot.bus) (same b.slot.bus))
        ∙ ap (λ bus. placed_range (place_among (window_part c d) (others bus))) (bus_alike b d both)

    over_alike : (bus : ℕ) → BothOrNone IsAlike (bridge_over s bus) (bridge_over t bus)
    over_alike bus = find_zip IsAlike (λ b. is_bridge b && secondary b == bus) (λ b. is_bridge b && secondary b == bus)
        (λ f g is. of_bridges f g is (secondary f == bus) (secondary g == bus) (λ bridge. ap (λ n. n == bus) (is.secondary bridge))) s t pairs

    ranges_alike : (i j : PlacingItem) → IsAlikeItem i j → ranges_anew q s placed i ≡ ranges_anew q t others j
    ranges_alike i j is =
        let bus = bus_alike i.region.function j.region.function is.region.function in
        let class = is.class in
        let extent = is.extent in
        let over = window_alike i.class (bridge_over s i.region.function.slot.bus) (bridge_over t i.region.function.slot.bus) (over_alike i.region.function.slot.bus) in
        let here : ranges_anew q s placed i ≡ (if is_root q.roots i.region.function.slot.bus then root_ranges q i else new_ranges others i.class (bridge_over t i.region.function.slot.bus)) =
        ap (λ w. if is_root q.roots i.region.function.slot.bus then root_ranges q i else w) over in
        here ∙ (λ n. if is_root q.roots (bus n)
        then class_ranges q (class n) (bus n) ++ (if is_high (extent n) then wide_ranges q (class n) (bus n) else [])
        else new_ranges others (class n) (bridge_over t (bus n)))

  -- ---- the items of a space

  of_class : (c : WindowKind) (bus : ℕ) → AllZip IsAlikeItem (bus_items q s c k.stays (new_window q s c) bus) (bus_items q t c j.stays (new_window q t c) bus)
  of_class c bus = items_alike q anew s t pairs c k.stays j.stays (λ r u is. none r ∙ sym (no_other u)) (new_window q s c) (new_window q t c) (windows_alike q anew s t pairs c 256) bus

  space_items_alike : (space : Space) (bus : ℕ) → AllZip IsAlikeItem (space_items q s k space bus) (space_items q t j space bus)
  space_items_alike Io bus = of_class IoWindow bus
  space_items_alike Memory bus =
      append_zip IsAlikeItem (bus_items q s MemoryWindow k.stays (new_window q s MemoryWindow) bus) (bus_items q s PrefetchWindow k.stays (new_window q s PrefetchWindow) bus)
      (bus_items q t MemoryWindow j.stays (new_window q t MemoryWindow) bus) (bus_items q t PrefetchWindow j.stays (new_window q t PrefetchWindow) bus) (of_class MemoryWindow bus) (of_class PrefetchWindow bus)

  -- ---- what lines hold behind

  -- a window is of a bridge
  of_bridge : (space : Space) (bus : ℕ) (i : PlacingItem) → Contains (space_items q s k space bus) i → is_window i.region.part ≡ true → is_bridge i.region.function ≡ true
  of_bridge space bus i has window =
      let is = (space_items_are q s k space bus i has).of in
      let region : record { function = is.f; part = is.p } ≡ i.region = ap (λ (j : PlacingItem). j.region) is.is in
      by is.f is.p region is.can
    where
      by : (f : Function) (p : Part) → record { function = f; part = p } ≡ i.region → {c : WindowKind} → IsPlaceable q s c f p → is_bridge i.region.function ≡ true
      by f p region (IsOwnPart plain part) = absurd (both_ways (is_window p) plain (ap (λ (r : FunctionPart). is_window r.part) region ∙ window))
      by f p region (IsNewWindow new bridge has) = ap (λ (r : FunctionPart). is_bridge r.function) (sym region) ∙ bridge

  lines_alike : (space : Space) (bus : ℕ) (i j : PlacingItem) → Contains (space_items q s k space bus) i → IsAlikeItem i j → lines_behind q i.region ≡ lines_behind q j.region
  lines_alike space bus i j has is = ap (λ (test : ToldRegion → Bool). map line_range (filter test (told_regions q.told))) (fun_ext same)
    where
      f : Function
      f = i.region.function

      g : Function
      g = j.region.function

      same_part : is_window i.region.part ≡ is_window j.region.part
      same_part = ap is_window is.region.part

      same_space : space_of f i.region.part ≡ space_of g j.region.part
      same_space = space_alike f g is.region.function i.region.part ∙ ap (space_of g) is.region.part

      same : (x : ToldRegion) → is_line_behind i.region x ≡ is_line_behind j.region x
      same x = elim (cases_Bool (is_window i.region.part)) [
        | inr plain ↦
            ap (λ b. b && is_behind f (line_bus x) && are_same_space (space_of f i.region.part) x.told.space) plain
            ∙ sym (ap (λ b. b && is_behind g (line_bus x) && are_same_space (space_of g j.region.part) x.told.space) (sym same_part ∙ plain))
        | inl window ↦
            let behind = behind_alike f g is.region.function (of_bridge space bus i has window) (line_bus x) in
            λ n. same_part n && behind n && are_same_space (same_space n) x.told.space
      ]

  -- ---- places

  placing_alike : (space : Space) (depth bus : ℕ) → ArePlacedAlike (placing_within q s k space depth bus) (placing_within q t j space depth bus)
  unfolding placing_within
  placing_alike space zero bus = tt
  placing_alike space (suc depth) bus =
      let placed = λ (over : ℕ). placed_of (placing_within q s k space depth over) in
      let others = λ (over : ℕ). placed_of (placing_within q t j space depth over) in
      let lower = λ (over : ℕ). placed_alike (placing_within q s k space depth over) (placing_within q t j space depth over) (placing_alike space depth over) in
      subst (λ x. ArePlacedAlike x (placing_within q t j space (suc depth) bus)) (sym (placing_off q s k none space depth bus))
      (subst (ArePlacedAlike (place_each (find_anew q s k none placed) (lines_on q space bus) (space_items q s k space bus))) (sym (placing_off q t j no_other space depth bus))
      (each_alike (find_anew q s k none placed) (find_anew q t j no_other others) (lines_on q space bus) (space_items q s k space bus) (space_items q t j space bus)
      (λ x y zs has is.
      let ranges = ranges_alike placed others lower x y is in
      let lines = lines_alike space bus x y has is in
      let extent = is.extent in
      λ n. first_place (ranges n) (lines n ++ zs) (extent n))
      (space_items_alike space bus)))

  pub new_places_alike : (r u : FunctionPart) → IsAlikeRegion r u → BothOrNone IsAlikePlaced (new_place q s k r) (new_place q t j u)
  new_places_alike r u is =
      let bus = bus_alike r.function u.function is.function in
      let space = space_alike r.function u.function is.function r.part ∙ ap (space_of u.function) is.part in
      let places = λ (a : Space) (b : ℕ). placed_of (placing_on q s k a b) in
      let others = λ (a : Space) (b : ℕ). placed_of (placing_on q t j a b) in
      let here = placed_alike (placing_on q s k (space_of r.function r.part) r.function.slot.bus) (placing_on q t j (space_of r.function r.part) r.function.slot.bus) (placing_alike (space_of r.function r.part) 256 r.function.slot.bus) in
      let there : others (space_of r.function r.part) r.function.slot.bus ≡ others (space_of u.function u.part) u.function.slot.bus = λ i. others (space i) (bus i) in
      subst (λ ys. BothOrNone IsAlikePlaced (new_place q s k r) (place_among u ys)) there
      (among_alike r u is (places (space_of r.function r.part) r.function.slot.bus) (others (space_of r.function r.part) r.function.slot.bus) here)

  -- ---- and what lacks room

  lack_alike : (x y : Placing) → ArePlacedAlike x y → (o p : Option PlacingItem) → BothOrNone IsAlikeItem o p → BothOrNone IsAlikeItem (first_lack x o) (first_lack y p)
  lack_alike (AllPlaced xs) (AllPlaced ys) alike o p both = both
  lack_alike (AllPlaced xs) (Lacks j) alike o p both = absurd alike
  lack_alike (Lacks i) (AllPlaced ys) alike o p both = absurd alike
  lack_alike (Lacks i) (Lacks j) alike o p both = alike

  lacking_alike : (roots : List ℕ) → BothOrNone IsAlikeItem (lacking_on q s k roots) (lacking_on q t j roots)
  lacking_alike [] = tt
  lacking_alike (root ∷ roots) =
      lack_alike (placing_on q s k Io root) (placing_on q t j Io root) (placing_alike Io 256 root) (first_lack (placing_on q s k Memory root) None) (first_lack (placing_on q t j Memory root) None)
      (lack_alike (placing_on q s k Memory root) (placing_on q t j Memory root) (placing_alike Memory 256 root) None None tt)

  pub lack_same : is_some (lacking q s k) ≡ is_some (lacking q t j)
  lack_same = both_some IsAlikeItem (lacking q s k) (lacking q t j) (lacking_alike q.roots)

  pub none_lacks : lacking q s k ≡ None → lacking q t j ≡ None
  none_lacks none = by (lacking q s k) (lacking q t j) none (lacking_alike q.roots)
    where
      by : (o p : Option PlacingItem) → o ≡ None → BothOrNone IsAlikeItem o p → p ≡ None
      by o None e both = refl
      by None (Some y) e both = absurd both
      by (Some x) (Some y) e both = cc
