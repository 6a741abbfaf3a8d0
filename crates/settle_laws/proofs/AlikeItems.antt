-- In two systems that are alike the items of each bus are, where a test says alike what keeps its place; and so are new windows.
use Rattle.std.proofs.Common.{◌≡◌, ℕ, zero, suc, List, [], ◌∷◌, ◌&&◌, ◌||◌, map, cond, not, refl, Bool, true, ◌∙◌, ap, None, Some}
use Rattle.std.specs.Bool.{IsTrue, ◌==◌, nat_lt, if◌then◌else◌}
use Rattle.std.specs.List.{AllZip, filter, flat_map, list_any}
use Rattle.std.proofs.lemmas.Bool.{and_parts}
use Rattle.pci_spec.specs.Slot.{same_slot}
use Rattle.pci_spec.specs.Window.{WindowKind, page_size}
use Rattle.pci_spec.specs.System.{System, Function, is_bridge}
use Rattle.pci_spec.specs.Bus.{secondary, are_siblings}
use Rattle.settle_spec.specs.FirstPlace.{Extent}
use Rattle.settle_spec.specs.Lists.{Request, wanted_in}
use Rattle.settle_spec.specs.Spares.{spare_extent, with_spare}
use Rattle.settle_spec.specs.Parts.{FunctionPart, function_parts}
use Rattle.settle_spec.specs.Stands.{rank, window_part}
use Rattle.settle_spec.specs.Items.{PlacingItem, item_precedes, put_in, in_turn, own_extent, own_item, is_own, has_of, items_of, bus_items, extent_around, highest_in, spare_of, window_within, nothing}
use Rattle.settle_laws.proofs.Zipped.{cond_zip, append_zip, map_zip, map_same, flat_zip}
use Rattle.settle_laws.proofs.Alike.{IsAlike, IsAlikeRegion, bus_alike, bridge_alike, of_bridges, size_alike, highest_alike, rank_alike, has_of_alike, own_parts_alike}

pub record IsAlikeItem (i j : PlacingItem) : Type 0 where
  pub region : IsAlikeRegion i.region j.region
  pub class : i.class ≡ j.class
  pub extent : i.extent ≡ j.extent

pub rank_same : (r t : FunctionPart) → IsAlikeRegion r t → rank r ≡ rank t
rank_same r t is = rank_alike r.function t.function is.function r.part ∙ ap (λ p. rank record { function = t.function; part = p }) is.part

extent_same : (r t : FunctionPart) → IsAlikeRegion r t → own_extent r ≡ own_extent t
extent_same r t is =
    let size = size_alike r.function t.function is.function r.part in
    let highest = highest_alike r.function t.function is.function r.part in
    let here : own_extent r ≡ own_extent record { function = t.function; part = r.part } = λ i. record { size = size i; alignment = size i; highest = highest i } in
    here ∙ ap (λ p. own_extent record { function = t.function; part = p }) is.part

-- ---- in turn

before_same : (i j x y : PlacingItem) → IsAlikeItem i x → IsAlikeItem j y → item_precedes i j ≡ item_precedes x y
before_same i j x y first second =
    let e = first.extent in
    let d = second.extent in
    let r = rank_same i.region x.region first.region in
    let t = rank_same j.region y.region second.region in
    λ n. nat_lt (d n).alignment (e n).alignment || ((e n).alignment == (d n).alignment
    && (nat_lt (d n).size (e n).size || ((e n).size == (d n).size
    && nat_lt (r n) (t n))))

put_in_zip : (i j : PlacingItem) → IsAlikeItem i j → (xs ys : List PlacingItem) → AllZip IsAlikeItem xs ys → AllZip IsAlikeItem (put_in i xs) (put_in j ys)
put_in_zip i j is [] [] pairs = (is, tt)
put_in_zip i j is [] (y ∷ ys) pairs = absurd pairs
put_in_zip i j is (x ∷ xs) [] pairs = absurd pairs
put_in_zip i j is (x ∷ xs) (y ∷ ys) (first, rest) =
    cond_zip IsAlikeItem (item_precedes i x) (item_precedes j y) (before_same i x j y is first) (i ∷ (x ∷ xs)) (x ∷ put_in i xs) (j ∷ (y ∷ ys)) (y ∷ put_in j ys) (λ before. (is, (first, rest))) (first, put_in_zip i j is xs ys rest)

in_turn_zip : (xs ys : List PlacingItem) → AllZip IsAlikeItem xs ys → AllZip IsAlikeItem (in_turn xs) (in_turn ys)
in_turn_zip [] [] pairs = tt
in_turn_zip [] (y ∷ ys) pairs = absurd pairs
in_turn_zip (x ∷ xs) [] pairs = absurd pairs
in_turn_zip (x ∷ xs) (y ∷ ys) (first, rest) = put_in_zip x y first (in_turn xs) (in_turn ys) (in_turn_zip xs ys rest)

-- ---- of a bus

module _ (q : Request) (anew : IsTrue q.anew) (s t : System) (pairs : AllZip IsAlike s t) (c : WindowKind) where
  module _ (keeps others : FunctionPart → Bool) (keep_same : (r u : FunctionPart) → IsAlikeRegion r u → keeps r ≡ others u) (extent outer : Function → Extent) (same : (f g : Function) → IsAlike f g → is_bridge f ≡ true → extent f ≡ outer g) where
    abbrev opens : Function → Bool
    opens f = is_bridge f && has_of q s c f && not (keeps (window_part c f))

    abbrev others_open : Function → Bool
    others_open g = is_bridge g && has_of q t c g && not (others (window_part c g))

    opens_same : (f g : Function) → IsAlike f g → opens f ≡ others_open g
    opens_same f g is =
        let has = of_bridges f g is (has_of q s c f) (has_of q t c g) (has_of_alike q anew s t pairs c f g is) in
        let kept = keep_same (window_part c f) (window_part c g) record { function = is; part = refl } in
        λ i. has i && not (kept i)

    of_function : (f g : Function) → IsAlike f g → AllZip IsAlikeItem (items_of q s c keeps extent f) (items_of q t c others outer g)
    of_function f g is =
        let xs = filter (λ r. is_own q s c r && not (keeps r)) (function_parts q s f) in
        let ys = filter (λ r. is_own q t c r && not (others r)) (function_parts q t g) in
        let x : PlacingItem = record { region = window_part c f; class = c; extent = extent f } in
        let y : PlacingItem = record { region = window_part c g; class = c; extent = outer g } in
        append_zip IsAlikeItem (map (own_item c) xs) (cond (opens f) (x ∷ []) []) (map (own_item c) ys) (cond (others_open g) (y ∷ []) [])
        (map_zip IsAlikeRegion IsAlikeItem (own_item c) (own_item c) (λ r u alike. record { region = alike; class = refl; extent = extent_same r u alike }) xs ys
        (own_parts_alike q anew s t pairs f g is c keeps others (λ p. keep_same record { function = f; part = p } record { function = g; part = p } record { function = is; part = refl })))
        (cond_zip IsAlikeItem (opens f) (others_open g) (opens_same f g is) (x ∷ []) [] (y ∷ []) []
        (λ opened. (record { region = record { function = is; part = refl }; class = refl; extent = same f g is (and_parts (is_bridge f) (has_of q s c f) (and_parts (is_bridge f && has_of q s c f) (not (keeps (window_part c f))) opened).0).0 }, tt)) tt)

    pub items_alike : (bus : ℕ) → AllZip IsAlikeItem (bus_items q s c keeps extent bus) (bus_items q t c others outer bus)
    items_alike bus =
        let on = λ (f : Function). cond (are_siblings q.roots bus f.slot.bus) (items_of q s c keeps extent f) [] in
        let too = λ (g : Function). cond (are_siblings q.roots bus g.slot.bus) (items_of q t c others outer g) [] in
        in_turn_zip (flat_map on s) (flat_map too t)
        (flat_zip IsAlike IsAlikeItem on too (λ f g is.
        cond_zip IsAlikeItem (are_siblings q.roots bus f.slot.bus) (are_siblings q.roots bus g.slot.bus) (ap (are_siblings q.roots bus) (bus_alike f g is)) (items_of q s c keeps extent f) [] (items_of q t c others outer g) []
        (λ here. of_function f g is) tt) s t pairs)

  -- ---- new windows

  spare_same : (f g : Function) → IsAlike f g → spare_of q c f ≡ spare_of q c g
  spare_same f g is =
      let slot = is.slot in
      let bridge = bridge_alike f g is in
      let probe = is.probe in
      λ i. if list_any (same_slot (slot i)) q.slots && bridge i && nat_lt 0 (wanted_in q.spares c)
      then Some (spare_extent c (wanted_in q.spares c) (highest_in c (probe i))) else None

  around_same : (f g : Function) → IsAlike f g → (xs ys : List Extent) → xs ≡ ys
      → extent_around (page_size c) (highest_in c f.probe) (with_spare (spare_of q c f) xs) ≡ extent_around (page_size c) (highest_in c g.probe) (with_spare (spare_of q c g) ys)
  around_same f g is xs ys same =
      let probe = is.probe in
      let spare = spare_same f g is in
      λ i. extent_around (page_size c) (highest_in c (probe i)) (with_spare (spare i) (same i))

  pub windows_alike : (depth : ℕ) (f g : Function) → IsAlike f g → is_bridge f ≡ true → window_within q s c depth f ≡ window_within q t c depth g
  unfolding window_within
  windows_alike zero f g is bridge = around_same f g is [] [] refl
  windows_alike (suc depth) f g is bridge =
      let extents = λ (u : System) (bus : ℕ). map (λ (i : PlacingItem). i.extent) (bus_items q u c nothing (window_within q u c depth) bus) in
      around_same f g is (extents s (secondary f)) (extents t (secondary g))
      (map_same IsAlikeItem (λ (i : PlacingItem). i.extent) (λ (i : PlacingItem). i.extent) (λ i j alike. alike.extent) (bus_items q s c nothing (window_within q s c depth) (secondary f)) (bus_items q t c nothing (window_within q t c depth) (secondary f))
      (items_alike nothing nothing (λ r u alike. refl) (window_within q s c depth) (window_within q t c depth) (windows_alike depth) (secondary f))
      ∙ ap (extents t) (is.secondary bridge))
