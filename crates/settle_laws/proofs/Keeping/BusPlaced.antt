-- Only roots can lack room beside what is kept: where they have it, each bus has a place for each of its items.
use Rattle.std.proofs.Common.{◌≡◌, ◌&&◌, ℕ, zero, suc, ◌+◌, ◌-◌, ◌%◌, ◌<◌, ◌≤◌, ◌⊎◌, inl, inr, max, List, [], ◌∷◌, ◌++◌, map, true, false, cond, arith, refl, sym, ◌∙◌, ap, subst, Option, None, Some}
use Rattle.std.specs.Bool.{◌==◌, nat_le}
use Rattle.std.specs.List.{Contains}
use Rattle.std.proofs.lemmas.Bool.{and_parts, both_ways, cases_Bool, eqb-true, leb-true, or_cases}
use Rattle.std.proofs.lemmas.List.Elements.{Contains-append_cases}
use Rattle.pci_spec.specs.Decoded.{Range}
use Rattle.pci_spec.specs.Window.{WindowKind, IoWindow, MemoryWindow, PrefetchWindow, page_size}
use Rattle.pci_spec.specs.System.{System, Function, Space, Io, Memory, Window, is_bridge, space_of, window_space}
use Rattle.pci_spec.specs.Bus.{is_root, are_siblings, secondary}
use Rattle.pci_spec.proofs.BusRanges.{root_means}
use Rattle.pci_spec.proofs.Members.{in_nil, in_head, in_tail, in_map_from, pairs_nil}
use Rattle.plan_spec.specs.Plan.{greatest}
use Rattle.plan_spec.specs.Place.{range_from}
use Rattle.plan_spec.specs.Planning.Layout.{LieApart}
use Rattle.plan_spec.proofs.Planning.AboveBuses.{root_or_led}
use Rattle.plan_spec.proofs.Planning.Placement.{power_pos}
use Rattle.plan_spec.proofs.Planning.Safe.{order_of}
use Rattle.settle_spec.specs.FirstPlace.{Extent, least_number, first_place, is_spot, ends_by, is_place}
use Rattle.settle_spec.specs.Lines.{lines_on, lines_behind, taken_for}
use Rattle.settle_spec.specs.Lists.{Request}
use Rattle.settle_spec.specs.Spares.{with_spare}
use Rattle.settle_spec.specs.Parts.{FunctionPart, bridge_over, class_in, header_parts}
use Rattle.settle_spec.specs.Stands.{window_part}
use Rattle.settle_spec.specs.Items.{PlacingItem, Placed, Placing, AllPlaced, Lacks, are_placed, place_all, taken_by, has_of, bus_items, nothing, highest_in, spare_of, window_around, new_window, place_each}
use Rattle.settle_spec.specs.Places.{placed_of, place_among, placed_range, root_ranges, first_lack}
use Rattle.settle_spec.specs.PlacingLaws.{ArePlaced, PlacesAreApart}
use Rattle.settle_spec.specs.WindowLaws.{CanBeIn}
use Rattle.settle_spec.specs.Kept.{Kept}
use Rattle.settle_spec.specs.Keeping.Places.{space_items, taken_at, place_behind, place_of_item, placing_on, root_lack, lacking_on}
use Rattle.settle_spec.proofs.BridgeOver.{over_is}
use Rattle.settle_spec.proofs.FirstSpot.{least_in, spot_gives}
use Rattle.settle_spec.proofs.ItemsBehind.{items_are_behind}
use Rattle.settle_spec.proofs.LastSpot.{place_gives}
use Rattle.settle_spec.proofs.Nested.{on_it}
use Rattle.settle_spec.proofs.NewWindows.{window_is_around}
use Rattle.settle_spec.proofs.Room.{window_has_room}
use Rattle.settle_laws.proofs.Holding.{items_same_on}
use Rattle.settle_laws.specs.KeptLaws.{IsRangeApart, IsAlikeIn, AreOffBehind, HavePlaces}
use Rattle.settle_laws.specs.Keeping.PlacesLaws.{CanSettle}
use Rattle.settle_laws.proofs.BusPlaced.{one_left, nothing_long, page_some, memory_no_prefetch}
use Rattle.settle_spec.proofs.Buses.{each_same}
use Rattle.settle_laws.proofs.HeaderParts.{window_of}
use Rattle.settle_laws.proofs.ItemForms.{item_by, items_are, in_with_spare, window_in, item_power, new_window_power}
use Rattle.settle_laws.proofs.Kept.{outside_within, off_roots, window_ranks}
use Rattle.settle_laws.proofs.KeptTaken.{IsKeptThere, kept_there, items_aligned}
use Rattle.settle_laws.proofs.Outside.{same_outside, with_taken, with_taken_is, with_taken_keeps}
use Rattle.settle_laws.proofs.PartClasses.{space_of_class}
use Rattle.settle_laws.proofs.PlacedBus.{placed_list}
use Rattle.settle_laws.proofs.Told.Behind.{on_is_behind, inner_is_behind}
use Rattle.settle_laws.proofs.Told.Places.{same_without, placed_off}
use Rattle.settle_laws.proofs.Powers.{below_greatest, multiple_below}
use Rattle.settle_laws.proofs.Keeping.Buses.{placing_by_bus, roots_are_one, of_space}
use Rattle.settle_laws.proofs.Keeping.Items.{item_positive}
use Rattle.settle_laws.proofs.Keeping.Kept.{stays_listed, kept_over}
use Rattle.settle_laws.proofs.Keeping.PlacedBus.{window_ranges, ranges_of_item, places, items, low_bus, beside_itself, in_space, IsPlacedBus, HasPlace, place_of, EndsIn, Keeps, Gets, IsBeside, end_apart}
use Rattle.settle_laws.proofs.Keeping.PlacedLists.{each_append, placed_append, placed_by}

module _ (q : Request) (s : System) (k : Kept) (can : CanSettle q s k) where
  abbrev pub found_in : Space → PlacingItem → List Range → Option ℕ
  found_in space = place_of_item q s k (places q s k can space)

  abbrev pub ranges_in : Space → PlacingItem → List Range
  ranges_in space = ranges_of_item q s k (places q s k can space)

  -- beside what lines hold behind it, too
  abbrev pub found_off : Space → PlacingItem → List Range → Option ℕ
  found_off space i xs = found_in space i (taken_for q i.region xs)

  abbrev behind : PlacingItem → List Range
  behind i = lines_behind q i.region

  -- ---- the bus behind a bridge whose own bus is placed

  module _ (space : Space) (b : Function) (listed : Contains s b) (bridge : is_bridge b ≡ true) (over : IsPlacedBus q s k can space b.slot.bus) where
    abbrev bus : ℕ
    bus = secondary b

    abbrev ranges : PlacingItem → List Range
    ranges = ranges_in space

    abbrev find : PlacingItem → List Range → Option ℕ
    find = found_in space

    abbrev find_off : PlacingItem → List Range → Option ℕ
    find_off = found_off space

    abbrev taken : List Range
    taken = taken_at q s k space bus

    on_bus : (n : ℕ) → are_siblings q.roots bus n ≡ true → bus ≡ n
    on_bus n beside = on_it q.roots s can.system can.nested b n listed bridge beside

    window_beside : (c : WindowKind) → window_space c ≡ space → IsBeside q s k can space b.slot.bus (window_part c b)
    window_beside c of = record { listed = listed; there = window_of b c; beside = beside_itself q s k can b.slot.bus; at = of }

    -- the range that an item of a class has, and that all of them have places in it, whatever is taken outside of it
    pub record HasRange (c : WindowKind) : Type 0 where
      pub range : Range
      pub ends : EndsIn q s k can over.placed (window_part c b) range
      pub shown : window_ranges q s k (places q s k can space) c (Some b) ≡ range ∷ []
      pub have : (xs : List Range) → IsAlikeIn range xs taken → IsAlikeIn range taken xs → HavePlaces q range find xs (items q s k can c bus)

    -- the place of an item of the class is found in the window over it
    find_behind : (c : WindowKind) (i : PlacingItem) (xs : List Range) → Contains (items q s k can c bus) i → find i xs ≡ place_behind k (places q s k can space) (record { region = i.region; class = c; extent = i.extent }) xs (Some b)
    find_behind c i xs has =
        let is = items_are q s (new_window q s) c k.stays bus i has in
        let class : i.class ≡ c = ap (λ (j : PlacingItem). j.class) (sym is.is) in
        let at = sym (on_bus i.region.function.slot.bus (ap (λ (j : PlacingItem). are_siblings q.roots bus j.region.function.slot.bus) (sym is.is) ∙ is.beside)) in
        let on = i.region.function.slot.bus in
        let D = places q s k can space in
        ap (λ t. cond t (first_place (root_ranges q i) xs i.extent) (place_behind k D i xs (bridge_over s on))) (ap (is_root q.roots) at ∙ off_roots q s can.system can.nested b listed bridge)
        ∙ ap (λ n. place_behind k D i xs (bridge_over s n)) at
        ∙ ap (place_behind k D i xs) (over_is q.roots s can.system can.nested bus b (listed, bridge, refl))
        ∙ ap (λ d. place_behind k D (record { region = i.region; class = d; extent = i.extent }) xs (Some b)) class

    -- ---- a window that stays

    module _ (c : WindowKind) (of : window_space c ≡ space) (keeps : k.stays (window_part c b) ≡ true) where
      kept_found : (i : PlacingItem) (xs : List Range) → Contains (items q s k can c bus) i → find i xs ≡ k.place b i xs
      kept_found i xs has =
          let is = items_are q s (new_window q s) c k.stays bus i has in
          let class : i.class ≡ c = ap (λ (j : PlacingItem). j.class) (sym is.is) in
          find_behind c i xs has
          ∙ ap (λ t. cond t (k.place b (record { region = i.region; class = c; extent = i.extent }) xs) (first_place (placed_range (place_among (window_part c b) (places q s k can space b.slot.bus))) xs i.extent)) keeps
          ∙ ap (λ d. k.place b (record { region = i.region; class = d; extent = i.extent }) xs) (sym class)

      kept_have : (xs : List Range) → IsAlikeIn (k.range (window_part c b)) xs taken → IsAlikeIn (k.range (window_part c b)) taken xs → HavePlaces q (k.range (window_part c b)) find xs (items q s k can c bus)
      kept_have xs to back =
          let have = can.sound.places c b xs listed bridge keeps
          (subst (λ sp. IsAlikeIn (k.range (window_part c b)) xs (taken_at q s k sp bus)) (sym of) to)
          (subst (λ sp. IsAlikeIn (k.range (window_part c b)) (taken_at q s k sp bus) xs) (sym of) back) in
          record {
            placed = have.placed;
            found =
                each_same find_off (λ i xs. k.place b i (taken_for q i.region xs)) xs (items q s k can c bus) (λ i xs has. kept_found i (taken_for q i.region xs) has)
                ∙ have.found;
            are = have.are;
            off = have.off;
          }

      kept_has_range : HasRange c
      kept_has_range = record {
        range = k.range (window_part c b);
        ends = Keeps keeps refl;
        shown = ap (λ t. cond t (k.range (window_part c b) ∷ []) (placed_range (place_among (window_part c b) (places q s k can space b.slot.bus)))) keeps;
        have = kept_have;
      }

    -- ---- a window that gets a place

    module _ (c : WindowKind) (of : window_space c ≡ space) (moves : k.stays (window_part c b) ≡ false) where
      none_there : (t : FunctionPart) → Contains s t.function → Contains (header_parts t.function) t.part → are_siblings q.roots bus t.function.slot.bus ≡ true → class_in q s t.function t.part ≡ c → k.stays t ≡ nothing t
      none_there t in_t there beside class = elim (cases_Bool (k.stays t)) [
        | inl is ↦
            let over = (kept_over q s k can b listed bridge t (stays_listed q s k can t.function t.part in_t there is) is (on_bus t.function.slot.bus beside)).1 in
            absurd (both_ways (k.stays (window_part c b)) moves (ap (λ d. k.stays (window_part d b)) (sym class) ∙ over))
        | inr off ↦ off
      ]

      items_all : items q s k can c bus ≡ bus_items q s c nothing (new_window q s c) bus
      items_all = items_same_on q s k.stays nothing bus c none_there

      -- nothing of the class behind, so no item
      none_behind : has_of q s c b ≡ false → items q s k can c bus ≡ []
      none_behind none = items_all ∙ nothing_long (bus_items q s c nothing (new_window q s c) bus) (sym (items_are_behind q s c (new_window q s c) can.system can.nested b listed bridge) ∙ none)

      module _ (has : has_of q s c b ≡ true) where
        window_place : HasPlace q s k can space b (Window c) over.placed
        window_place =
            place_of q s k can space b.slot.bus over b (Window c) listed bridge
            (subst (λ sp. Contains (space_items q s k sp b.slot.bus) (item_by (new_window q s) c b (Window c))) of
            (in_space q s k can c b.slot.bus (item_by (new_window q s) c b (Window c))
            (window_in q s (new_window q s) c k.stays b.slot.bus b listed (beside_itself q s k can b.slot.bus) bridge has moves)))

        abbrev new_range : Range
        new_range = taken_by window_place.at.item window_place.at.at

        -- the window's place is lawful
        record IsLawfulPlace : Type 0 where
          multiple : window_place.at.at % (new_window q s c b).alignment ≡ 0
          below : window_place.at.at + ((new_window q s c b).size - 1) ≤ (new_window q s c b).highest

        lawful_place : IsLawfulPlace
        lawful_place =
            let x = window_place.at in
            let own = over.are.each x window_place.listed in
            let e = x.item.extent in
            let same : e ≡ new_window q s c b = ap (λ (i : PlacingItem). i.extent) window_place.item in
            let parts = and_parts (is_spot own.0.first (taken_at q s k space b.slot.bus) e x.at) (ends_by own.0 e x.at) own.2 in
            let free = spot_gives own.0.first (taken_at q s k space b.slot.bus) e x.at parts.0 in
            let end = and_parts (nat_le (x.at + (e.size - 1)) own.0.last) (nat_le (x.at + (e.size - 1)) e.highest) parts.1 in
            record {
              multiple = ap (λ (d : Extent). x.at % d.alignment) (sym same) ∙ free.multiple;
              below = subst (λ (d : Extent). x.at + (d.size - 1) ≤ d.highest) same (leb-true (x.at + (e.size - 1)) e.highest end.1);
            }

        around : new_window q s c b ≡ window_around q c b (items q s k can c bus)
        around = window_is_around q s c can.system can.nested b listed bridge ∙ ap (window_around q c b) (sym items_all)

        -- each item behind can be in the window
        can_be : (i : PlacingItem) → Contains (items q s k can c bus) i → CanBeIn window_place.at.at (new_window q s c b).size i
        can_be i has_i =
            let law = lawful_place in
            let own = map (λ (j : PlacingItem). j.extent) (items q s k can c bus) in
            let extents = with_spare (spare_of q c b) own in
            let in_e : Contains extents i.extent = in_with_spare (spare_of q c b) own i.extent (in_map_from (λ (j : PlacingItem). j.extent) (items q s k can c bus) i has_i) in
            let less : i.extent.alignment ≤ greatest (map (λ (e : Extent). e.alignment) extents) = below_greatest (map (λ (e : Extent). e.alignment) extents) i.extent.alignment (in_map_from (λ (e : Extent). e.alignment) extents i.extent in_e) in
            let whole : (new_window q s c b).alignment ≡ max (page_size c) (greatest (map (λ (e : Extent). e.alignment) extents)) = ap (λ (e : Extent). e.alignment) around in
            let power = item_power q s (new_window q s) c bus i (new_window_power q s c) (items_are q s (new_window q s) c k.stays bus i has_i) in
            let end = law.below in
            let highest : (new_window q s c b).highest ≡ least_number (highest_in c b.probe ∷ map (λ (e : Extent). e.highest) extents) = ap (λ (e : Extent). e.highest) around in
            let high = least_in (highest_in c b.probe ∷ map (λ (e : Extent). e.highest) extents) i.extent.highest (in_tail (highest_in c b.probe) (map (λ (e : Extent). e.highest) extents) i.extent.highest (in_map_from (λ (e : Extent). e.highest) extents i.extent in_e)) in
            record {
              alignment = power_pos i.extent.alignment power;
              multiple = multiple_below window_place.at.at (new_window q s c b).alignment i.extent.alignment (new_window_power q s c b) power (omega (arith, less, whole)) law.multiple;
              below = omega (arith, end, high, highest);
            }

        new_room : are_placed (place_all (λ i. new_range ∷ []) [] (items q s k can c bus)) ≡ true
        new_room =
            ap (λ n. are_placed (place_all (λ i. range_from window_place.at.at n ∷ []) [] (items q s k can c bus))) (ap (λ (i : PlacingItem). i.extent.size) window_place.item)
            ∙ window_has_room (page_size c) (spare_of q c b) (items q s k can c bus) window_place.at.at (new_window q s c b).size (page_some c) (ap (λ (e : Extent). e.size) around) can_be

        new_ends : EndsIn q s k can over.placed (window_part c b) new_range
        new_ends = Gets moves window_place.at window_place.found_there window_place.listed (ap (λ (i : PlacingItem). i.region) window_place.item) refl

        -- what stays behind is in the other window
        other_stays : (t : Range) → IsKeptThere q s k space bus t → IsRangeApart new_range t
        other_stays t is =
            let r = is.of in
            let d = class_in q s r.function r.part in
            let within = kept_over q s k can b listed bridge r is.listed is.kept (on_bus r.function.slot.bus is.beside) in
            let of_d : window_space d ≡ space = space_of_class q s r.function r.part ∙ is.at in
            subst (IsRangeApart new_range) is.is
            (outside_within new_range (k.range (window_part d b)) (k.range r)
            (end_apart q s k can space b.slot.bus over (window_part c b) (window_part d b) new_range (k.range (window_part d b)) (window_beside c of) (window_beside d of_d)
            (λ e. both_ways (k.stays (window_part c b)) moves (ap (λ k2. k.stays (window_part k2 b)) (window_ranks q s can.system can.nested b listed bridge c d e) ∙ within.1)) new_ends (Keeps within.1 refl)) within.0)

        is_shown : window_ranges q s k (places q s k can space) c (Some b) ≡ new_range ∷ []
        is_shown =
            ap (λ t. cond t (k.range (window_part c b) ∷ []) (placed_range (place_among (window_part c b) (places q s k can space b.slot.bus)))) moves
            ∙ ap (λ p. placed_range (place_among (window_part c b) (placed_of p))) over.is
            ∙ ap placed_range window_place.found_there

        new_found : (i : PlacingItem) (xs : List Range) → Contains (items q s k can c bus) i → find i xs ≡ first_place (new_range ∷ []) xs i.extent
        new_found i xs has_i =
            find_behind c i xs has_i
            ∙ ap (λ t. cond t (k.place b (record { region = i.region; class = c; extent = i.extent }) xs) (first_place (placed_range (place_among (window_part c b) (places q s k can space b.slot.bus))) xs i.extent)) moves
            ∙ ap (λ p. first_place (placed_range (place_among (window_part c b) (placed_of p))) xs i.extent) over.is
            ∙ ap (λ o. first_place (placed_range o) xs i.extent) window_place.found_there

        -- lines behind are off the window's place
        lines_aside : (t : Range) → Contains (lines_behind q (window_part c b)) t → IsRangeApart new_range t
        lines_aside t has = swap (over.off window_place.at t window_place.listed (subst (λ r. Contains (lines_behind q r) t) (sym (ap (λ (i : PlacingItem). i.region) window_place.item)) has))
          where
            swap : LieApart new_range t → IsRangeApart new_range t
            swap (inl under) = inr under
            swap (inr over) = inl over

        on_aside : (t : Range) → Contains (lines_on q space bus) t → IsRangeApart new_range t
        on_aside t has = lines_aside t (on_is_behind q s can.system can.nested b listed bridge c t (subst (λ sp. Contains (lines_on q sp bus) t) (sym of) has))

        behind_aside : (i : PlacingItem) (t : Range) → Contains (items q s k can c bus) i → Contains (behind i) t → IsRangeApart new_range t
        behind_aside i t has_i has =
            let is = items_are q s (new_window q s) c k.stays bus i has_i in
            let space_at : space_of is.f is.p ≡ window_space c = sym (space_of_class q s is.f is.p) ∙ ap window_space is.class in
            lines_aside t (inner_is_behind q s can.system can.nested b listed bridge c c is.f is.p is.listed (on_bus is.f.slot.bus is.beside) space_at is.can t
            (subst (λ (j : PlacingItem). Contains (lines_behind q j.region) t) (sym is.is) has))

        new_have : (xs : List Range) → IsAlikeIn new_range xs taken → HavePlaces q new_range find xs (items q s k can c bus)
        new_have xs to =
            let here : PlacingItem → List Range = λ i. new_range ∷ [] in
            let is = items q s k can c bus in
            let pos = items_aligned q s k c k.stays bus in
            let place : PlacingItem → List Range → Option ℕ = λ i xs. first_place (new_range ∷ []) (taken_for q i.region xs) i.extent in
            let out : IsAlikeIn new_range xs [] = λ t has_t. elim (to t has_t) [
              | inl there ↦ inr (elim (kept_there q s k space bus t there) [ inl line ↦ on_aside t line | inr kept ↦ other_stays t kept ])
              | inr aside ↦ inr aside
            ] in
            let same : place_each place xs is ≡ place_all here [] is = same_without new_range behind is xs behind_aside pos ∙ same_outside new_range is xs [] out (λ t has_t. absurd (in_nil t has_t)) pos in
            let list = placed_list (place_each place xs is) (ap are_placed same ∙ new_room) in
            let off = placed_off here behind xs is pos list.0 list.1 in
            record {
              placed = list.0;
              found = each_same find_off place xs is (λ i xs has. new_found i (taken_for q i.region xs) has) ∙ list.1;
              are = off.are;
              off = off.off;
            }

        new_has_range : HasRange c
        new_has_range = record { range = new_range; ends = new_ends; shown = is_shown; have = λ xs to back. new_have xs to }

    -- ---- either

    pub range_or_none : (c : WindowKind) → window_space c ≡ space → (items q s k can c bus ≡ []) ⊎ HasRange c
    range_or_none c of = elim (cases_Bool (k.stays (window_part c b))) [
      | inl keeps ↦ inr (kept_has_range c of keeps)
      | inr moves ↦ elim (cases_Bool (has_of q s c b)) [
        | inl has ↦ inr (new_has_range c of moves has)
        | inr none ↦ inl (none_behind c of moves none)
      ]
    ]

    -- an item of the class has the window's addresses
    pub range_of_item : (c : WindowKind) (h : HasRange c) (i : PlacingItem) → i.class ≡ c → i.region.function.slot.bus ≡ bus → ranges i ≡ h.range ∷ []
    range_of_item c h i class at =
        let on = i.region.function.slot.bus in
        let D = places q s k can space in
        ap (λ t. cond t (root_ranges q i) (window_ranges q s k D i.class (bridge_over s on))) (ap (is_root q.roots) at ∙ off_roots q s can.system can.nested b listed bridge)
        ∙ ap (λ c. window_ranges q s k D c (bridge_over s on)) class
        ∙ ap (λ n. window_ranges q s k D c (bridge_over s n)) at
        ∙ ap (window_ranges q s k D c) (over_is q.roots s can.system can.nested bus b (listed, bridge, refl))
        ∙ h.shown

    item_ranges : (c : WindowKind) (h : HasRange c) (i : PlacingItem) → Contains (items q s k can c bus) i → ranges i ≡ h.range ∷ []
    item_ranges c h i has_i =
        let is = items_are q s (new_window q s) c k.stays bus i has_i in
        range_of_item c h i (ap (λ (j : PlacingItem). j.class) (sym is.is)) (sym (on_bus i.region.function.slot.bus (ap (λ (j : PlacingItem). are_siblings q.roots bus j.region.function.slot.bus) (sym is.is) ∙ is.beside)))

    -- items with the places that are found for them
    record AreFound (xs : List Range) (is : List PlacingItem) : Type 0 where
      placed : List Placed
      found : place_each find_off xs is ≡ AllPlaced placed
      are : ArePlaced ranges xs is placed
      off : AreOffBehind q placed

    -- those of one class are placed, whatever else is taken outside the window
    class_placed : (c : WindowKind) → (items q s k can c bus ≡ []) ⊎ HasRange c → (xs : List Range) → ((h : HasRange c) → IsAlikeIn h.range xs taken) → ((h : HasRange c) → IsAlikeIn h.range taken xs)
        → AreFound xs (items q s k can c bus)
    class_placed c (inl none) xs to back = subst (AreFound xs) (sym none) record {
      placed = [];
      found = refl;
      are = record { all = refl; each = λ p has. absurd (in_nil p has); apart = pairs_nil PlacesAreApart };
      off = λ p t has. absurd (in_nil p has);
    }
    class_placed c (inr h) xs to back =
        let have = h.have xs (to h) (back h) in
        record { placed = have.placed; found = have.found; are = placed_by (λ i. h.range ∷ []) ranges xs (items q s k can c bus) have.placed (item_ranges c h) have.are; off = have.off }

    -- the windows of two classes are apart
    windows_apart : (c d : WindowKind) (h : HasRange c) (j : HasRange d) → window_space c ≡ space → window_space d ≡ space → (c ≡ d → ⊥) → LieApart h.range j.range
    windows_apart c d h j of_c of_d differ =
        end_apart q s k can space b.slot.bus over (window_part c b) (window_part d b) h.range j.range (window_beside c of_c) (window_beside d of_d)
        (λ e. differ (window_ranks q s can.system can.nested b listed bridge c d e)) h.ends j.ends

    -- what is placed in a window is outside what is outside of it
    lies_outside : (r u : Range) (xs : List Range) (e : Extent) (a : ℕ) → is_place u xs e a ≡ true → LieApart r u → IsRangeApart r (range_from a e.size)
    lies_outside r u xs e a place out =
        let at = place_gives u xs e a place in
        let from = at.from in
        let end = at.last in
        elim out [ inl under ↦ inr (omega (arith, under, from)) | inr above ↦ inl (omega (arith, above, end)) ]

    pub no_item : {P : Type 0} (xs : List PlacingItem) (i : PlacingItem) → Contains xs i → xs ≡ [] → P
    no_item xs i has none = absurd (in_nil i (subst (λ ys. Contains ys i) none has))

    module _ (m : window_space MemoryWindow ≡ space) (p : window_space PrefetchWindow ≡ space) where
      memory : AreFound taken (items q s k can MemoryWindow bus)
      memory = class_placed MemoryWindow (range_or_none MemoryWindow m) taken (λ h t has. inl has) (λ h t has. inl has)

      memory_out : (h : HasRange PrefetchWindow) (x : Placed) → Contains memory.placed x → IsRangeApart h.range (taken_by x.item x.at)
      memory_out h x listed_x =
          let item : Contains (items q s k can MemoryWindow bus) x.item = subst (λ xs. Contains xs x.item) memory.are.all (in_map_from (λ (y : Placed). y.item) memory.placed x listed_x) in
          elim (range_or_none MemoryWindow m) [
            | inl none ↦ no_item (items q s k can MemoryWindow bus) x.item item none
            | inr j ↦
                let own = memory.are.each x listed_x in
                let there : j.range ≡ own.0 = one_left j.range own.0 (subst (λ rs. Contains rs own.0) (item_ranges MemoryWindow j x.item item) own.1) in
                lies_outside h.range own.0 taken x.item.extent x.at own.2 (subst (LieApart h.range) there (windows_apart PrefetchWindow MemoryWindow h j p m (λ e. memory_no_prefetch (sym e))))
          ]

      prefetch_to : (h : HasRange PrefetchWindow) → IsAlikeIn h.range (with_taken memory.placed taken) taken
      prefetch_to h t has = elim (with_taken_is memory.placed taken t has) [
        | inl there ↦ inl there
        | inr (x, listed_x, same) ↦ inr (subst (IsRangeApart h.range) same (memory_out h x listed_x))
      ]

      prefetch : AreFound (with_taken memory.placed taken) (items q s k can PrefetchWindow bus)
      prefetch = class_placed PrefetchWindow (range_or_none PrefetchWindow p) (with_taken memory.placed taken) prefetch_to (λ h t has. inl (with_taken_keeps memory.placed taken t has))

      of_memory : AreFound taken (items q s k can MemoryWindow bus ++ items q s k can PrefetchWindow bus)
      of_memory = record {
        placed = memory.placed ++ prefetch.placed;
        found = each_append find_off taken (items q s k can MemoryWindow bus) (items q s k can PrefetchWindow bus) memory.placed prefetch.placed memory.found prefetch.found;
        are = placed_append ranges taken (items q s k can MemoryWindow bus) (items q s k can PrefetchWindow bus) memory.placed prefetch.placed memory.are prefetch.are;
        off = λ p t has in_t. elim (Contains-append_cases memory.placed prefetch.placed p has) [ inl early ↦ memory.off p t early in_t | inr late ↦ prefetch.off p t late in_t ];
      }

    of_io : window_space IoWindow ≡ space → AreFound taken (items q s k can IoWindow bus)
    of_io io = class_placed IoWindow (range_or_none IoWindow io) taken (λ h t has. inl has) (λ h t has. inl has)

  placed_from : (space : Space) (b : Function) (listed : Contains s b) (bridge : is_bridge b ≡ true) (over : IsPlacedBus q s k can space b.slot.bus) → secondary b < 256
      → AreFound space b listed bridge over (taken_at q s k space (secondary b)) (space_items q s k space (secondary b)) → IsPlacedBus q s k can space (secondary b)
  placed_from space b listed bridge over low found = record {
    placed = found.placed;
    is = placing_by_bus q s k can.system can.nested space (secondary b) low ∙ found.found;
    are = found.are;
    off = found.off;
  }

  behind_placed : (b : Function) (listed : Contains s b) (bridge : is_bridge b ≡ true) (space : Space) → IsPlacedBus q s k can space b.slot.bus → secondary b < 256 → IsPlacedBus q s k can space (secondary b)
  behind_placed b listed bridge Io over low = placed_from Io b listed bridge over low (of_io Io b listed bridge over refl)
  behind_placed b listed bridge Memory over low = placed_from Memory b listed bridge over low (of_memory Memory b listed bridge over refl refl)

  -- ---- the roots

  first_none : (p : Placing) (o : Option PlacingItem) → first_lack p o ≡ None → (are_placed p ≡ true) × (o ≡ None)
  first_none (AllPlaced placed) o none = (refl, none)
  first_none (Lacks i) o none = cc

  both_placed : (root : ℕ) → root_lack q s k root ≡ None → (space : Space) → are_placed (placing_on q s k space root) ≡ true
  both_placed root none Io = (first_none (placing_on q s k Io root) (first_lack (placing_on q s k Memory root) None) none).0
  both_placed root none Memory = (first_none (placing_on q s k Memory root) None (first_none (placing_on q s k Io root) (first_lack (placing_on q s k Memory root) None) none).1).0

  root_placed : (roots : List ℕ) → q.roots ≡ roots → lacking_on q s k roots ≡ None → (space : Space) (root : ℕ) → is_root q.roots root ≡ true → are_placed (placing_on q s k space root) ≡ true
  root_placed [] are none space root is = absurd (both_ways (is_root [] root) refl (subst (λ rs. is_root rs root ≡ true) are is))
  root_placed (first ∷ more) are none space root is =
      let head : is_root q.roots first ≡ true = (root_means q.roots first).1 (subst (λ rs. Contains rs first) (sym are) (in_head first more)) in
      ap are_placed (roots_are_one q s k space root first is head) ∙ both_placed first none space

  -- an item of a root has its first place in the lists of the root
  root_bus : (space : Space) (root : ℕ) → root < 256 → is_root q.roots root ≡ true → IsPlacedBus q s k can space root
  root_bus space root low is =
      let list = placed_list (placing_on q s k space root) (root_placed q.roots refl can.room space root is) in
      let first : PlacingItem → List Range → Option ℕ = λ i xs. first_place (ranges_in space i) (taken_for q i.region xs) i.extent in
      let items = space_items q s k space root in
      let xs = taken_at q s k space root in
      let same = each_same (found_off space) first xs items (λ i ys has. on_root i (taken_for q i.region ys) (root_of i has)) in
      let off = placed_off (ranges_in space) behind xs items (item_positive q s k space root) list.0 (sym same ∙ sym (placing_by_bus q s k can.system can.nested space root low) ∙ list.1) in
      record { placed = list.0; is = list.1; are = off.are; off = off.off }
    where
      root_of : (i : PlacingItem) → Contains (space_items q s k space root) i → is_root q.roots i.region.function.slot.bus ≡ true
      root_of i has = elim (or_cases (root == i.region.function.slot.bus) (is_root q.roots root && is_root q.roots i.region.function.slot.bus) (of_space q s k space root i has).beside) [
        | inl same ↦ subst (λ n. is_root q.roots n ≡ true) (eqb-true root i.region.function.slot.bus same) is
        | inr both ↦ (and_parts (is_root q.roots root) (is_root q.roots i.region.function.slot.bus) both).1
      ]

      on_root : (i : PlacingItem) (ys : List Range) → is_root q.roots i.region.function.slot.bus ≡ true → found_in space i ys ≡ first_place (ranges_in space i) ys i.extent
      on_root i ys here =
          ap (λ t. cond t (first_place (root_ranges q i) ys i.extent) (place_behind k (places q s k can space) i ys (bridge_over s i.region.function.slot.bus))) here
          ∙ sym (ap (λ t. first_place (cond t (root_ranges q i) (window_ranges q s k (places q s k can space) i.class (bridge_over s i.region.function.slot.bus))) ys i.extent) here)

  -- ---- all buses

  placed_below : (n : ℕ) (space : Space) (f : Function) → f.slot.bus < n → Contains s f → IsPlacedBus q s k can space f.slot.bus
  placed_below zero space f less listed = absurd (let no : ⊥ = omega (arith, less) in no)
  placed_below (suc n) space f less listed = elim (root_or_led q.roots s can.system can.nested f listed) [
    | inl root ↦ root_bus space f.slot.bus (low_bus q s k can f listed) ((root_means q.roots f.slot.bus).1 root)
    | inr (b, leader) ↦
        let to = leader.leads in
        let up = order_of q.roots s can.nested b leader.listed leader.bridge in
        let over = placed_below n space b (omega (arith, less, up, to)) leader.listed in
        let low = low_bus q s k can f listed in
        subst (λ bus. IsPlacedBus q s k can space bus) to (behind_placed b leader.listed leader.bridge space over (omega (arith, low, to)))
  ]

  pub placed_bus : (space : Space) (f : Function) → Contains s f → IsPlacedBus q s k can space f.slot.bus
  placed_bus space f listed = placed_below (suc f.slot.bus) space f (omega arith) listed

  pub each_placed : (space : Space) (f : Function) → Contains s f → are_placed (placing_on q s k space f.slot.bus) ≡ true
  each_placed space f listed = ap are_placed (placed_bus space f listed).is
