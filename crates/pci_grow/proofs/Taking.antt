-- Whether the next part of a row takes, by what is told.
use Rattle.std.proofs.Common.{◌≡◌, ℕ, ◌+◌, ◌<◌, ◌≤◌, ◌⊎◌, inl, inr, List, [], ◌++◌, map, length, take, get_or, Bool, true, false, ◌&&◌, arith, refl, ap, sym, subst, ◌∙◌, Option, None, Some}
use Rattle.std.specs.Bool.{if◌then◌else◌}
use Rattle.std.specs.List.{All, Contains, slice_get}
use Rattle.std.specs.Option.{option_map, is_some}
use Rattle.std.proofs.lemmas.Bool.{cases_Bool, cases_lt, and_parts, both_ways, false≢true, false_from_ne_true, true_from_ne_false, ltb-true}
use Rattle.std.proofs.lemmas.List.{length-map, get_or-map, get_or_past}
use Rattle.std.proofs.lemmas.List.Elements.{All-contains, Contains-get_or}
use Rattle.std.proofs.lemmas.Option.{none-some, same_Some, slice_get-get_or}
use Rattle.pci_spec.specs.Header.{layout, bar_count}
use Rattle.pci_spec.specs.Window.{WindowKind}
use Rattle.pci_spec.specs.Decoded.{Range as DecodedRange}
use Rattle.pci_spec.specs.System.{System, Function, IsFunction, IsSystem, is_bridge, has_part, window_space}
use Rattle.pci_spec.specs.Bus.{is_root, secondary, are_siblings, IsNested}
use Rattle.plan_spec.proofs.Planning.Safe.{order_of}
use Rattle.settle_spec.specs.Lines.{lines_on, taken_for}
use Rattle.settle_spec.specs.Lists.{Request}
use Rattle.settle_spec.specs.Parts.{FunctionPart, system_parts, header_parts, addresses, are_same_space}
use Rattle.settle_spec.specs.Stands.{part_space, window_part, stands}
use Rattle.settle_spec.specs.Items.{PlacingItem as ItemValue, Placed, AllPlaced, bus_items, new_window, place_each}
use Rattle.settle_spec.specs.Reach.{reach}
use Rattle.settle_spec.specs.Growth.{place_around, range_list, there_on, taken_around, window_comes_to, part_comes_to, is_clear, there, comes_to, takes_growth}
use Rattle.settle_spec.proofs.Nested.{on_it, is_no_root, at_secondary}
use Rattle.settle_laws.proofs.ItemForms.{IsItemOf, items_are}
use Rattle.settle_laws.proofs.HeaderParts.{few_bars}
use Rattle.settle_laws.specs.Order.{level}
use Rattle.settle_laws.specs.There.{height}
use Rattle.settle_laws.proofs.Holding.{pieces_same, items_same_on}
use Rattle.settle_laws.proofs.Standing.{part_of, stands_by_itself}
use Rattle.settle_laws.proofs.There.{IsFoundPlace, each_found}
use Rattle.settle_laws.proofs.ThereByBus.{height_low}
use Rattle.pci_base.specs.declared.range.Range.{Range}
use Rattle.pci_base.specs.declared.window_kind.WindowKind.{WindowKind as CodeKind}
use Rattle.pci_base.specs.Ranges.{decoded_range_of}
use Rattle.pci_base.specs.WindowKinds.{kind_value}
use Rattle.pci_function.specs.declared.record.Bridge.{Bridge}
use Rattle.pci_function.specs.declared.record.Record.{Record}
use Rattle.pci_tree.specs.Ways.{bus_behind}
use Rattle.pci_tree.proofs.Lifting.{same_bridge, same_secondary}
use Rattle.pci_place.specs.Items.{no_function, function_in}
use Rattle.pci_place.specs.Records.{IsRecordInSystem}
use Rattle.pci_first_fit.specs.declared.item.Item.{Item}
use Rattle.pci_first_fit.specs.declared.item.Part.{Part as ItemPart}
use Rattle.pci_first_fit.specs.declared.item.Part.TheVariants as items
use Rattle.pci_first_fit.specs.declared.kept.Part.{Part as CodePart}
use Rattle.pci_first_fit.specs.declared.kept.Part.TheVariants as parts
use Rattle.pci_first_fit.specs.Kept.{spec_part}
use Rattle.pci_first_fit.specs.Own.{class_part, asked_item_value}
use Rattle.pci_first_fit.specs.Placings.{at_places}
use Rattle.pci_kept.specs.declared.region.Region.{Region}
use Rattle.pci_kept.specs.Known.{region_value}
use Rattle.pci_grow.specs.Arounds.{AreRisingAtBothEnds}
use Rattle.pci_first_fit.specs.PlaceTables.{IsItemPart}
use Rattle.pci_grow.specs.Putting.{ArePutOver, HasItemPart}
use Rattle.pci_grow.specs.RoomRows.{row_number}
use Rattle.pci_first_fit.specs.Tables.{told}
use Rattle.pci_grow.specs.There.{Tables, in_row, there_of, is_past, there_told}
use Rattle.pci_grow.specs.Telling.{Setting, IsWindowWithReach, IsThereTold, IsNext, IsWindowNoted, IsLatest, there_among, part_row_number, AreToldTo}
use Rattle.pci_grow.proofs.Clearing.{comes_hold, past_is}
use Rattle.pci_grow.proofs.InRows.{v_known, v_listed, v_stands, v_row, part_in_row, of_row, known_in, stands_in}
use Rattle.pci_grow.proofs.Noted.{noted_told}
use Rattle.pci_grow.proofs.Ordered.{there_in_order}
use Rattle.pci_grow.proofs.Putting.{at_read, all_length}
use Rattle.pci_grow.proofs.Stepping.{takes_none, stays_told, higher_told, comes_same}
use Rattle.pci_grow.proofs.Told.{region_range, row_low, row_high, level_root, level_off}

-- ---- what is taken around a window is told by what is there on the bus behind it

taken_same : (q : Request) (s : System) (one other : FunctionPart → Option DecodedRange) (c : WindowKind) (b : Function)
    → ((t : FunctionPart) → Contains s t.function → Contains (header_parts t.function) t.part → are_siblings q.roots (secondary b) t.function.slot.bus ≡ true → one t ≡ other t)
    → taken_around q s one c b ≡ taken_around q s other c b
taken_same q s one other c b same =
    ap (λ xs. place_each find (lines_on q (window_space c) (secondary b) ++ xs) (items_by one)) (pieces_same (piece one) (piece other) (system_parts q s) (λ r listed. of r (part_of q s r listed).listed (part_of q s r listed).there))
    ∙ ap (place_each find (lines_on q (window_space c) (secondary b) ++ there_on q s other of_space (secondary b))) (items_same_on q s (λ r. is_some (one r)) (λ r. is_some (other r)) (secondary b) c (λ t listed there beside class. ap is_some (same t listed there beside)))
  where
    of_space : FunctionPart → Bool
    of_space r = are_same_space (window_space c) (part_space r)

    find : ItemValue → List DecodedRange → Option ℕ
    find i taken = place_around (addresses (window_part c b)) (reach q s c b) (taken_for q i.region taken) i.extent

    items_by : (FunctionPart → Option DecodedRange) → List ItemValue
    items_by there = bus_items q s c (λ r. is_some (there r)) (new_window q s c) (secondary b)

    piece : (FunctionPart → Option DecodedRange) → FunctionPart → List DecodedRange
    piece there r = if are_siblings q.roots (secondary b) r.function.slot.bus && of_space r then range_list (there r) else []

    of : (r : FunctionPart) → Contains s r.function → Contains (header_parts r.function) r.part → piece one r ≡ piece other r
    of r listed header = elim (cases_Bool (are_siblings q.roots (secondary b) r.function.slot.bus)) [
      | inl beside ↦ ap (λ o. if are_siblings q.roots (secondary b) r.function.slot.bus && of_space r then range_list o else []) (same r listed header beside)
      | inr apart ↦ ap (λ x. if x && of_space r then range_list (one r) else []) apart ∙ sym (ap (λ x. if x && of_space r then range_list (other r) else []) apart)
    ]

-- what no function is of is of no function of the system
none_past : (s : System) → IsSystem s → (k : ℕ) → Contains s (function_in s k) → k < length s
none_past s system k listed = elim (cases_lt k (length s)) [
  | inl inside ↦ inside
  | inr past ↦
      let none : function_in s k ≡ no_function = get_or_past s k no_function past in
      let full : 0 ≡ 256 = (All-contains IsFunction s no_function system.each (subst (Contains s) none listed)).image.full in
      absurd (let no : ⊥ = omega (arith, full) in no)
]

-- ---- the next part of a row

module _ (p : Setting) (t : Tables) (r : Region) (class : CodeKind) (window : r.part ≡ parts.Window class) (q : Request) (number count : ℕ) (next : IsNext q p number count t r) where
  abbrev s : System
  s = p.classing.system

  abbrev c : WindowKind
  c = kind_value class

  abbrev k : ℕ
  k = r.function

  abbrev f : Function
  f = function_in s k

  abbrev w : FunctionPart
  w = window_part c f

  abbrev v : FunctionPart
  v = region_value s r

  system : IsSystem s
  system = next.growing.system

  nested : IsNested q.roots s
  nested = next.growing.nested

  w_is : v ≡ w
  w_is = ap (λ x. record { function = f; part = spec_part x }) window

  pub inside : k < length s
  inside = (v_known q s system nested p.rows next.growing.rows number count r next.within next.at).within

  at_k : slice_get s k ≡ Some f
  at_k = slice_get-get_or s k no_function inside

  listed_v : Contains (system_parts q s) v
  listed_v = v_listed q s system nested p.rows next.growing.rows number count r next.within next.at

  stand_w : stands q s w ≡ true
  stand_w = subst (λ u. stands q s u ≡ true) w_is (v_stands q s system nested p.rows next.growing.rows number count r next.within next.at)

  in_f : Contains s f
  in_f = (part_of q s v listed_v).listed

  bridge_f : is_bridge f ≡ true
  bridge_f = (and_parts (is_bridge f) _ (and_parts _ _ ((stands_by_itself q s nested).only w in_f stand_w)).0).0

  -- it is a window of a bridge, of which a reach is told
  pub no_bridge : (x : Record) → IsRecordInSystem s f x → x.bridge ≡ None → ⊥
  no_bridge x is none = both_ways (is_some x.bridge) (ap is_some none) (same_bridge x f is.value ∙ bridge_f)

  reach_told : option_map decoded_range_of (told p.reaches k class) ≡ Some (reach q s c f)
  reach_told = next.growing.reaches k f class at_k bridge_f stand_w

  pub no_reach : told p.reaches k class ≡ None → ⊥
  no_reach none = none-some (reach q s c f) (sym (ap (option_map decoded_range_of) none) ∙ reach_told)

  pub window_of : (x : Record) → IsRecordInSystem s f x → (b : Bridge) → x.bridge ≡ Some b → (to : Range) → told p.reaches k class ≡ Some to → IsWindowWithReach q s f b class (record { window = r.range; reach = to })
  window_of x is b b_is to to_is = record {
    x = x;
    is = is;
    bridge = b_is;
    stand = stand_w;
    window = region_range q s r (v_known q s system nested p.rows next.growing.rows number count r next.within next.at) ∙ ap addresses w_is;
    reach_is = same_Some (decoded_range_of to) (reach q s c f) (sym (ap (option_map decoded_range_of) to_is) ∙ reach_told);
  }

  pub there_told_is : IsThereTold q s t
  there_told_is = record {
    stand = λ u listed is. true_from_ne_false (stands q s u) (λ off.
        let none = (next.told.off u (part_of q s u listed).listed (part_of q s u listed).there off).there_is in
        false≢true (sym (ap is_some none) ∙ is));
    keeps = next.told.keeps;
  }

  -- ---- what is there behind it lies in order

  bus_up : f.slot.bus < secondary f
  bus_up = order_of q.roots s nested f in_f bridge_f

  pub behind_in_order : (x : Record) → IsRecordInSystem s f x → (b : Bridge) → x.bridge ≡ Some b → AreRisingAtBothEnds (there_of t (in_row (row_number (b.secondary + 1) (window_space c)) p.rows))
  behind_in_order x is b b_is =
      there_in_order q s system nested next.growing.low p.rows next.growing.rows t (row_number (b.secondary + 1) (window_space c)) (λ u has.
      let known = known_in q s system nested p.rows next.growing.rows u (of_row q s system nested p.rows next.growing.rows (row_number (b.secondary + 1) (window_space c)) u has).0 in
      let stand = stands_in q s system nested p.rows next.growing.rows u (of_row q s system nested p.rows next.growing.rows (row_number (b.secondary + 1) (window_space c)) u has).0 in
      (next.told.each (region_value s u) known.listed stand (inl (up u has))).there_is)
    where
      bus : secondary f ≡ b.secondary
      bus = sym (same_secondary x f is.value bridge_f) ∙ ap (λ o. bus_behind (record x { bridge = o })) b_is

      low : (is_root q.roots f.slot.bus ≡ true) ⊎ (is_root q.roots f.slot.bus ≡ false) → level q f.slot.bus ≤ f.slot.bus + 1
      low (inl root) = let e = level_root q f.slot.bus root in omega (arith, e)
      low (inr off) = let e = level_off q f.slot.bus off in omega (arith, e)

      up : (u : Region) → Contains (in_row (row_number (b.secondary + 1) (window_space c)) p.rows) u → number < part_row_number q (region_value s u)
      up u has =
          let here = part_in_row q s system nested p.rows next.growing.rows (row_number (b.secondary + 1) (window_space c)) u has in
          let own = v_row q s system nested p.rows next.growing.rows number count r next.within next.at in
          let high = row_high (level q f.slot.bus) (part_space v) in
          let least = row_low (b.secondary + 1) (window_space c) in
          let most = low (cases_Bool (is_root q.roots f.slot.bus)) in
          let rises = bus_up in
          let same = bus in
          omega (arith, here, own, high, least, most, rises, same)

  -- ---- what it comes to

  told_comes : comes_to q s v ≡ window_comes_to q s (there_told s t) c f
  told_comes =
      sym (comes_same q s system nested p.rows next.growing.rows number count r next.within next.at t next.told)
      ∙ ap (part_comes_to q s (there_told s t) f) (ap spec_part window)
      ∙ ap (λ x. if x then window_comes_to q s (there_told s t) c f else None) stand_w

  told_taken : taken_around q s (there_told s t) c f ≡ taken_around q s (there q s) c f
  told_taken = taken_same q s (there_told s t) (there q s) c f (λ u listed header beside.
      let on = on_it q.roots s system nested f u.function.slot.bus in_f bridge_f beside in
      let off = false_from_ne_true (is_root q.roots u.function.slot.bus) (is_no_root q.roots s system nested f u.function.slot.bus in_f bridge_f (at_secondary q.roots s system nested f u.function.slot.bus in_f bridge_f on)) in
      let high : height q u.function.slot.bus ≡ u.function.slot.bus = ap (λ b. if b then 0 else u.function.slot.bus) off in
      let up = bus_up in
      let low = height_low q s f in
      higher_told q s system nested p.rows next.growing.rows number count r next.within next.at t next.told u listed header (omega (arith, up, on, low, high)))

  pub none_more : window_comes_to q s (there_told s t) c f ≡ None → AreToldTo q s p.rows number (count + 1) t
  none_more none = stays_told q s system nested p.rows next.growing.rows number count r next.within next.at t next.told (takes_none q s system nested v (told_comes ∙ none))

  module _ (listed : List Item) (firsts : List ℕ) (even : length firsts ≡ length listed) (placed : taken_around q s (there_told s t) c f ≡ AllPlaced (at_places (map (asked_item_value s c) listed) firsts)) where
    item_at : (m : ℕ) (d : Item) → m < length listed → IsItemOf q s (new_window q s) c (secondary f) (asked_item_value s c (get_or listed m d))
    item_at m d less =
        let values = map (asked_item_value s c) listed in
        let long = length-map listed (asked_item_value s c) in
        let value = asked_item_value s c (get_or listed m d) in
        let one : Placed = record { item = value; at = get_or firsts m 0 } in
        let all = all_length s c listed firsts even in
        let here : get_or (at_places values firsts) m one ≡ one =
        at_read values firsts m value one (omega (arith, even, long)) (omega (arith, less, long)) ∙ ap (λ (i : ItemValue). record { item = i; at = get_or firsts m 0 }) (get_or-map (asked_item_value s c) listed m d value less) in
        let has : Contains (at_places values firsts) one = subst (Contains (at_places values firsts)) here (Contains-get_or (at_places values firsts) m one (omega (arith, less, all))) in
        let found : IsFoundPlace (λ i taken. place_around (addresses w) (reach q s c f) (taken_for q i.region taken) i.extent) (bus_items q s c (λ u. is_some (there_told s t u)) (new_window q s c) (secondary f)) one =
        each_found (λ i taken. place_around (addresses w) (reach q s c f) (taken_for q i.region taken) i.extent) (lines_on q (window_space c) (secondary f) ++ there_on q s (there_told s t) (λ u. are_same_space (window_space c) (part_space u)) (secondary f))
        (bus_items q s c (λ u. is_some (there_told s t u)) (new_window q s c) (secondary f)) (at_places values firsts) placed one has in
        items_are q s (new_window q s) c (λ u. is_some (there_told s t u)) (secondary f) value found.listed

    pub has_parts : All (HasItemPart s c) listed
    has_parts m d less =
        let item = item_at m d less in
        let is : record { function = item.f; part = item.p } ≡ (asked_item_value s c (get_or listed m d)).region = ap (λ (i : ItemValue). i.region) item.is in
        subst (λ (u : FunctionPart). has_part u.function u.part ≡ true) is item.there

    pub functions_in : All (λ (i : Item). i.function < length t.places) listed
    functions_in m d less =
        let item = item_at m d less in
        let is : item.f ≡ function_in s (get_or listed m d).function = ap (λ (i : ItemValue). i.region.function) item.is in
        let low = none_past s system (get_or listed m d).function (subst (Contains s) is item.listed) in
        let size = next.told.places in
        omega (arith, low, size)

    pub item_parts : All (λ (i : Item). IsItemPart i.part) listed
    item_parts m d less = by (get_or listed m d).part (has_parts m d less)
      where
        by : (x : ItemPart) → has_part (function_in s (get_or listed m d).function) (class_part c x) ≡ true → IsItemPart x
        by (items.Bar n) there = few_bars (function_in s (get_or listed m d).function) n (ltb-true n (bar_count (layout (function_in s (get_or listed m d).function).image)) there)
        by items.Rom there = tt
        by items.Window there = tt

  module _ (g : Range) (comes : window_comes_to q s (there_told s t) c f ≡ Some (decoded_range_of g)) (end : Option ℕ) (latest : IsLatest (there_among q s (take count (in_row number p.rows))) end) where
    comes_v : comes_to q s v ≡ Some (decoded_range_of g)
    comes_v = told_comes ∙ comes

    takes_is : takes_growth q s v ≡ is_past end g
    takes_is =
        ap (is_clear q s (there q s) v) comes_v
        ∙ sym (past_is q s system nested p.rows next.growing.rows number count r next.within next.at end latest g (comes_hold q s system nested v (decoded_range_of g) comes_v))

    pub short_more : is_past end g ≡ false → AreToldTo q s p.rows number (count + 1) t
    short_more short = stays_told q s system nested p.rows next.growing.rows number count r next.within next.at t next.told (takes_is ∙ short)

    pub past_more : (listed : List Item) (firsts : List ℕ) → taken_around q s (there_told s t) c f ≡ AllPlaced (at_places (map (asked_item_value s c) listed) firsts)
        → is_past end g ≡ true → (new : Tables) → IsWindowNoted t new k class g → ArePutOver s (at_places (map (asked_item_value s c) listed) firsts) t.places new.places → AreToldTo q s p.rows number (count + 1) new
    past_more listed firsts placed past new noted put =
        noted_told q s system nested p.rows next.growing.rows number count r next.within next.at t next.told class window inside new g noted
        (sym (ap (takes_growth q s) w_is) ∙ takes_is ∙ past) (sym (ap (comes_to q s) w_is) ∙ comes_v) (at_places (map (asked_item_value s c) listed) firsts) (sym told_taken ∙ placed) put

-- a part that is no window takes nothing
pub other_more : (p : Setting) (t : Tables) (r : Region) → ((class : CodeKind) → r.part ≡ parts.Window class → ⊥) → (q : Request) (number count : ℕ) → IsNext q p number count t r → AreToldTo q p.classing.system p.rows number (count + 1) t
other_more p t r other q number count next =
    stays_told q p.classing.system next.growing.system next.growing.nested p.rows next.growing.rows number count r next.within next.at t next.told
    (takes_none q p.classing.system next.growing.system next.growing.nested (region_value p.classing.system r) (by r.part other))
  where
    by : (x : CodePart) → ((class : CodeKind) → x ≡ parts.Window class → ⊥) → part_comes_to q p.classing.system (there q p.classing.system) (function_in p.classing.system r.function) (spec_part x) ≡ None
    by (parts.Bar n) never = refl
    by parts.Rom never = refl
    by (parts.Window class) never = absurd (never class refl)
