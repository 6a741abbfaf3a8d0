-- What a window comes to by the code is what it comes to by what is told to be there.
use Rattle.std.proofs.Common.{◌≡◌, ℕ, ◌+◌, ◌^◌, ◌<◌, ◌≤◌, ◌⊎◌, min, max, inl, inr, List, ◌++◌, map, get_or, Bool, true, false, cond, arith, refl, ap, sym, subst, ◌∙◌, Option, None, Some}
use Rattle.std.specs.List.{All, Contains, fold}
use Rattle.std.specs.Option.{is_some, option_map}
use Rattle.std.proofs.lemmas.Bool.{false_from_ne_true}
use Rattle.std.proofs.lemmas.List.{get_or-map}
use Rattle.std.proofs.lemmas.List.Elements.{Contains-get_or}
use Rattle.pci_spec.specs.Window.{WindowKind}
use Rattle.pci_spec.proofs.Members.{IsMade, in_map_to, in_map_from}
use Rattle.pci_spec.specs.Decoded.{Range as DecodedRange, HasRecords}
use Rattle.pci_spec.specs.System.{System, Function, is_bridge, has_part, window_space}
use Rattle.pci_spec.specs.Bus.{secondary, is_root}
use Rattle.plan_spec.specs.Plan.{same_class}
use Rattle.plan_spec.proofs.Planning.PlacedItems.{same_class_is}
use Rattle.settle_spec.specs.FirstPlace.{Extent as ExtentValue}
use Rattle.settle_spec.specs.Lines.{lines_on, lines_behind}
use Rattle.settle_spec.specs.Lists.{Request}
use Rattle.settle_spec.specs.Parts.{FunctionPart, system_parts, addresses, class_in, are_same_space}
use Rattle.settle_spec.specs.Stands.{part_space, window_part}
use Rattle.settle_spec.specs.Items.{PlacingItem as ItemValue, AllPlaced, highest_in, bus_items, new_window}
use Rattle.settle_spec.specs.Reach.{reach}
use Rattle.settle_spec.specs.Growth.{grown_to, there_on, taken_around, window_comes_to}
use Rattle.settle_spec.proofs.SameTaken.{HaveSame}
use Rattle.settle_spec.proofs.Nested.{at_secondary, is_no_root}
use Rattle.settle_laws.proofs.ItemForms.{items_are}
use Rattle.settle_laws.proofs.PartClasses.{space_of_class}
use Rattle.settle_laws.proofs.Reach.{reaches_are_around}
use Rattle.settle_laws.proofs.Standing.{stands_by_itself, window_listed}
use Rattle.pci_base.specs.declared.range.Range.{Range}
use Rattle.pci_base.specs.declared.window_kind.WindowKind.{WindowKind as CodeKind}
use Rattle.pci_base.specs.Ranges.{decoded_range_of}
use Rattle.pci_base.specs.WindowKinds.{kind_value, by_kind}
use Rattle.pci_function.specs.declared.record.Bridge.{Bridge}
use Rattle.pci_function.specs.Values.{record_value}
use Rattle.pci_tree.specs.Ways.{bus_behind}
use Rattle.pci_tree.proofs.Lifting.{same_bridge, same_secondary}
use Rattle.pci_place.specs.Items.{function_in}
use Rattle.pci_first_fit.specs.declared.item.Item.{Item}
use Rattle.pci_first_fit.specs.declared.item.Part.TheVariants.{Rom}
use Rattle.pci_first_fit.specs.Buses.{AreInTurn, bus_listing}
use Rattle.pci_first_fit.specs.NewWindows.{HasNewWindows, HasMarkedWindows, new_window_extent}
use Rattle.pci_first_fit.specs.Lines.{AreLines, level_of}
use Rattle.pci_first_fit.specs.Own.{class_part, asked_item_value}
use Rattle.pci_first_fit.specs.Placings.{at_places}
use Rattle.pci_first_fit.specs.Turns.{HasExtent}
use Rattle.pci_first_fit.proofs.Marked.{told_is}
use Rattle.pci_kept.specs.declared.region.Region.{Region}
use Rattle.pci_kept.specs.Known.{Known, region_value}
use Rattle.pci_kept.specs.Windows.{IsWholeRange}
use Rattle.pci_grow.proofs.LowReaches.{highest_below, reach_low}
use Rattle.pci_grow.specs.declared.around.Around.{Around}
use Rattle.pci_grow.specs.Arounds.{HaveBehind, ArePlacesAround, HaveNoPlaces}
use Rattle.pci_grow.specs.Grounds.{Ground, AreAlike}
use Rattle.pci_grow.specs.Rows.{region_row_number}
use Rattle.pci_grow.specs.RoomRows.{row_number}
use Rattle.pci_grow.specs.There.{Tables, in_row, there_of, there_of_class, range_told, class_told, holding, placed_ranges, there_told}
use Rattle.pci_grow.specs.Telling.{Setting, IsGrowing, IsWindowWithReach, IsThereTold}
use Rattle.pci_grow.proofs.AlikeTaken.{alike_same, alike_trans, alike_append}
use Rattle.pci_grow.proofs.Comings.{StandFor, behind_item, comes_none, comes_some}
use Rattle.pci_grow.proofs.InRows.{known_in}
use Rattle.pci_grow.proofs.MarkedAround.{marks_stand}
use Rattle.pci_grow.proofs.Told.{IsOnBus, row_bus, region_range, told_is as range_is, picked_same, one_space, space_itself}

-- what an index past the end is read as
abbrev pub no_item : Item
no_item = record { function = 0; part = Rom; extent = record { size = 1; alignment = 1; highest = 0 } }

module _ (p : Setting) (t : Tables) (b : Bridge) (class : CodeKind) (a : Around)
    (items : List Item) (d : Item) (lawful : All HasExtent items) (turn : AreInTurn (bus_listing p.classing (kind_value class) b.secondary (by_kind p.windows class) t.kept) items)
    (g : Ground) (kind_is : g.class ≡ class) (has : HasRecords p.classing.system (map record_value g.records)) (lines_are : g.lines ≡ p.lines)
    (row : List Region) (row_is : row ≡ in_row (row_number (b.secondary + 1) (window_space (kind_value class))) p.rows) where
  abbrev s : System
  s = p.classing.system

  abbrev c : WindowKind
  c = kind_value class

  module _ (q : Request) (f : Function) (growing : IsGrowing q p) (window : IsWindowWithReach q s f b class a) (told : IsThereTold q s t) where
    abbrev there : FunctionPart → Option DecodedRange
    there = there_told s t

    keeps : FunctionPart → Bool
    keeps r = is_some (there r)

    listed : Contains s f
    listed = window.is.listed

    bridge : is_bridge f ≡ true
    bridge = sym (same_bridge window.x f window.is.value) ∙ ap is_some window.bridge

    abbrev behind_in : Option Bridge → ℕ
    behind_in None = 0
    behind_in (Some x) = x.secondary

    bus : secondary f ≡ b.secondary
    bus = sym (same_secondary window.x f window.is.value bridge) ∙ ap (λ o. bus_behind (record window.x { bridge = o })) window.bridge

    -- ---- its reach

    -- it is no higher than the window may be
    low_reach : (reach q s c f).last ≤ highest_in c f.probe
    low_reach = reach_low q s growing.low c f listed window.stand

    small : a.reach.last < 2 ^ 64
    small =
        let to : a.reach.last ≡ (reach q s c f).last = ap (λ (r : DecodedRange). r.last) window.reach_is in
        let most = low_reach in
        let top = highest_below c f.probe in
        omega (arith, to, most, top)

    part : Contains (system_parts q s) (window_part c f)
    part = window_listed q s c f listed ((stands_by_itself q s growing.nested).only (window_part c f) listed window.stand)

    -- and the window has an address
    low : a.window.first < 2 ^ 64
    low =
        let made : IsMade (region_value s) p.rows (window_part c f) = in_map_to (region_value s) p.rows (window_part c f) (growing.rows.all (window_part c f) part window.stand) in
        let known = known_in q s growing.system growing.nested p.rows growing.rows made.from made.has in
        let is = region_range q s made.from known ∙ ap addresses made.is in
        let first : made.from.range.first ≡ (addresses (window_part c f)).first = ap (λ (r : DecodedRange). r.first) is in
        let last : made.from.range.last ≡ (addresses (window_part c f)).last = ap (λ (r : DecodedRange). r.last) is in
        let forward = known.forward in
        let own : a.window.first ≡ (addresses (window_part c f)).first = ap (λ (r : DecodedRange). r.first) window.window in
        let most = growing.low c f listed window.stand in
        let top = highest_below c f.probe in
        omega (arith, first, last, forward, own, most, top)

    -- ---- the items

    inside : a.reach.first ≤ a.window.first
    inside =
        let can = reaches_are_around q s c growing.nested growing.system growing.low f record { part = part; stands = window.stand } in
        let first = can.first in
        let to : a.reach.first ≡ (reach q s c f).first = ap (λ (r : DecodedRange). r.first) window.reach_is in
        let own : a.window.first ≡ (addresses (window_part c f)).first = ap (λ (r : DecodedRange). r.first) window.window in
        omega (arith, first, to, own)

    stand_for : StandFor (behind_item q) a (map (asked_item_value s c) items) (bus_items q s c (λ r. is_some (there r)) (new_window q s c) (secondary f))
    stand_for = by (growing.new class f listed window.stand)
      where
        by : HasNewWindows q s c p.classing.terms (by_kind p.windows class) ⊎ (HasMarkedWindows q s c (by_kind p.windows class) × (IsWholeRange (reach q s c f) → ⊥))
            → StandFor (behind_item q) a (map (asked_item_value s c) items) (bus_items q s c (λ r. is_some (there r)) (new_window q s c) (secondary f))
        by (inl new) = inl (
            turn record { request = q; keeps = λ r. is_some (there r); extent = new_window q s c } record { left = growing.left; keeps_is = told.keeps; behind = new.behind b.secondary }
            ∙ ap (bus_items q s c (λ r. is_some (there r)) (new_window q s c)) (sym bus))
        by (inr (marked, narrow)) =
            subst (λ n. StandFor (behind_item q) a (map (asked_item_value s c) items) (bus_items q s c (λ r. is_some (there r)) (new_window q s c) n)) (sym bus)
            (subst (λ xs. StandFor (behind_item q) a xs (bus_items q s c (λ r. is_some (there r)) (new_window q s c) b.secondary))
            (sym (turn record { request = q; keeps = λ r. is_some (there r); extent = new_window_extent (by_kind p.windows class) }
            record { left = growing.left; keeps_is = told.keeps; behind = λ g in_g beside is. told_is _ _ _ (marked g in_g is) }))
            (marks_stand q s growing.system growing.nested c (behind_item q) a small low inside (λ whole. narrow (subst IsWholeRange window.reach_is whole)) (λ r. is_some (there r)) (by_kind p.windows class) b.secondary marked))

    -- ---- what lines hold behind them

    all_behind : (extent : Function → ExtentValue) (n : ℕ) → map (asked_item_value s c) items ≡ bus_items q s c (λ r. is_some (there r)) extent n → HaveBehind g (behind_item q) (map (asked_item_value s c) items) items
    all_behind extent n same k v i less =
        let values = map (asked_item_value s c) items in
        let value = asked_item_value s c (get_or items k i) in
        let at : get_or values k v ≡ value = get_or-map (asked_item_value s c) items k i v less in
        let has_value : Contains values value = in_map_from (asked_item_value s c) items (get_or items k i) (Contains-get_or items k i less) in
        let item = items_are q s (λ d. extent) c (λ r. is_some (there r)) n value (subst (λ xs. Contains xs value) same has_value) in
        let is : record { function = item.f; part = item.p } ≡ value.region = ap (λ (x : ItemValue). x.region) item.is in
        record {
          q = q;
          s = s;
          system = growing.system;
          nested = growing.nested;
          has = has;
          rows = subst (AreLines q.roots q.told.ranges) (sym lines_are) growing.lines;
          listed = subst (λ (u : FunctionPart). Contains s u.function) is item.listed;
          there = subst (λ x. has_part (function_in s (get_or items k i).function) (class_part (kind_value x) (get_or items k i).part) ≡ true) (sym kind_is) (subst (λ (u : FunctionPart). has_part u.function u.part ≡ true) is item.there);
          held_is = ap (λ (x : ItemValue). lines_behind q x.region) at ∙ sym (ap (λ x. lines_behind q record { function = function_in s (get_or items k i).function; part = class_part (kind_value x) (get_or items k i).part }) kind_is);
        }

    off : HaveBehind g (behind_item q) (map (asked_item_value s c) items) items
    off = by (growing.new class f listed window.stand)
      where
        by : HasNewWindows q s c p.classing.terms (by_kind p.windows class) ⊎ (HasMarkedWindows q s c (by_kind p.windows class) × (IsWholeRange (reach q s c f) → ⊥))
            → HaveBehind g (behind_item q) (map (asked_item_value s c) items) items
        by (inl new) =
            all_behind (new_window q s c) b.secondary
            (turn record { request = q; keeps = λ r. is_some (there r); extent = new_window q s c } record { left = growing.left; keeps_is = told.keeps; behind = new.behind b.secondary })
        by (inr (marked, narrow)) =
            all_behind (new_window_extent (by_kind p.windows class)) b.secondary
            (turn record { request = q; keeps = λ r. is_some (there r); extent = new_window_extent (by_kind p.windows class) }
            record { left = growing.left; keeps_is = told.keeps; behind = λ g in_g beside is. told_is _ _ _ (marked g in_g is) })

    -- ---- what is there behind it

    row_at : row ≡ in_row (row_number (secondary f + 1) (window_space c)) p.rows
    row_at = row_is ∙ ap (λ n. in_row (row_number (n + 1) (window_space c)) p.rows) (sym bus)

    on_bus : (r : Region) → Contains p.rows r → region_row_number r ≡ row_number (secondary f + 1) (window_space c) → IsOnBus q (secondary f) (window_space c) (region_value s r)
    on_bus r has at = row_bus q s r (known_in q s growing.system growing.nested p.rows growing.rows r has) (secondary f) (window_space c) at

    same_space : HaveSame (map decoded_range_of (there_of t row)) (there_on q s there (λ r. are_same_space (window_space c) (part_space r)) (secondary f))
    same_space =
        subst (λ rs. HaveSame (map decoded_range_of (there_of t rs)) (there_on q s there (λ r. are_same_space (window_space c) (part_space r)) (secondary f))) (sym row_at)
        (picked_same q s growing.system growing.nested p.rows growing.rows there told.stand f listed bridge (window_space c) (λ r. are_same_space (window_space c) (part_space r)) (range_told t)
        (λ r has at.
        let on = on_bus r has at in
        range_is s growing.system t q r (known_in q s growing.system growing.nested p.rows growing.rows r has)
        ∙ sym (ap (λ x. cond x (there (region_value s r)) None) (ap (are_same_space (window_space c)) on.of_space ∙ space_itself (window_space c))))
        (λ v in_v passes. sym (one_space (window_space c) (part_space v) passes)))

    mapped : (x : Bool) (o : Option Range) (y : Option DecodedRange) → option_map decoded_range_of o ≡ y → option_map decoded_range_of (cond x o None) ≡ cond x y None
    mapped true o y e = e
    mapped false o y e = refl

    same_class_there : HaveSame (map decoded_range_of (there_of_class c t row)) (there_on q s there (λ r. same_class c (class_in q s r.function r.part)) (secondary f))
    same_class_there =
        subst (λ rs. HaveSame (map decoded_range_of (there_of_class c t rs)) (there_on q s there (λ r. same_class c (class_in q s r.function r.part)) (secondary f))) (sym row_at)
        (picked_same q s growing.system growing.nested p.rows growing.rows there told.stand f listed bridge (window_space c) (λ r. same_class c (class_in q s r.function r.part)) (class_told c t)
        (λ r has at.
        let known = known_in q s growing.system growing.nested p.rows growing.rows r has in
        ap (λ k. option_map decoded_range_of (cond (same_class c k) (range_told t r) None))
        (ap (λ (k : Known). k.class) known.all)
        ∙ mapped _ (range_told t r) (there (region_value s r)) (range_is s growing.system t q r known))
        (λ v in_v passes. sym (space_of_class q s v.function v.part) ∙ ap window_space (same_class_is c (class_in q s v.function v.part) passes)))

    -- ---- what is taken there

    no_root : is_root q.roots (secondary f) ≡ false
    no_root =
        let own = at_secondary q.roots s growing.system growing.nested f (secondary f) listed bridge refl in
        false_from_ne_true (is_root q.roots (secondary f)) (is_no_root q.roots s growing.system growing.nested f (secondary f) listed bridge own)

    pub on_level : level_of q.roots b.secondary ≡ b.secondary + 1
    on_level = ap (λ n. level_of q.roots n) (sym bus) ∙ ap (λ x. cond x 0 (secondary f + 1)) no_root ∙ ap (λ n. n + 1) bus

    module _ (taken : List Range) (taken_is : (q : Request) (n : ℕ) → AreLines q.roots q.told.ranges g.lines → level_of q.roots n ≡ b.secondary + 1
        → AreAlike (map decoded_range_of taken) (lines_on q (window_space c) n ++ map decoded_range_of (there_of t row))) where
      alike : AreAlike (map decoded_range_of taken) (lines_on q (window_space c) (secondary f) ++ there_on q s there (λ r. are_same_space (window_space c) (part_space r)) (secondary f))
      alike =
          alike_trans (map decoded_range_of taken) (lines_on q (window_space c) (secondary f) ++ map decoded_range_of (there_of t row)) (lines_on q (window_space c) (secondary f) ++ there_on q s there (λ r. are_same_space (window_space c) (part_space r)) (secondary f))
          (subst (λ n. AreAlike (map decoded_range_of taken) (lines_on q (window_space c) n ++ map decoded_range_of (there_of t row))) (sym bus)
          (taken_is q b.secondary (subst (AreLines q.roots q.told.ranges) (sym lines_are) growing.lines) on_level))
          (alike_append (lines_on q (window_space c) (secondary f)) (map decoded_range_of (there_of t row)) (there_on q s there (λ r. are_same_space (window_space c) (part_space r)) (secondary f))
          (alike_same (map decoded_range_of (there_of t row)) (there_on q s there (λ r. are_same_space (window_space c) (part_space r)) (secondary f)) same_space))

      -- ---- what it comes to

      pub none_is : HaveNoPlaces a g taken items → window_comes_to q s there c f ≡ None
      none_is none = comes_none q s c f there a window.window window.reach_is g items lawful d off stand_for taken alike none

      pub some_is : (places : List ℕ) → ArePlacesAround a g taken items places → (range : Range)
          → ((others : List DecodedRange)
          → (holding (holding a.window (there_of_class c t row)) (placed_ranges items places)).first ≡ fold min a.window.first (map (λ (r : DecodedRange). r.first) others)
          → (holding (holding a.window (there_of_class c t row)) (placed_ranges items places)).last ≡ fold max a.window.last (map (λ (r : DecodedRange). r.last) others)
          → decoded_range_of range ≡ grown_to c (decoded_range_of a.window) others)
          → (window_comes_to q s there c f ≡ Some (decoded_range_of range)) × (taken_around q s there c f ≡ AllPlaced (at_places (map (asked_item_value s c) items) places))
      some_is places are range grown =
          comes_some q s c f there a window.window window.reach_is g items lawful d off stand_for taken alike places are (there_of_class c t row) same_class_there range grown
