-- What a table tells of what stays, part by part as slots rise.
use Rattle.std.proofs.Common.{◌≡◌, ◌≢◌, ℕ, ◌+◌, ◌<◌, ◌≤◌, inl, inr, ◌⊎◌, List, [], ◌∷◌, map, length, set, get_or, Bool, true, false, cond, ◌&&◌, ◌||◌, not, arith, refl, sym, ◌∙◌, ap, subst, Some}
use Rattle.std.specs.List.{Contains, list_all, range_with_len, slice_get}
use Rattle.std.specs.List.Sorted.{IsNonDecreasingBy}
use Rattle.std.proofs.lemmas.Bool.{cases_Bool, cases_eq, cases_lt, and_parts, both_ways, false_from_ne_true, ltb-true}
use Rattle.std.proofs.lemmas.List.{length-map, length-set, get_or-map, get_or_default}
use Rattle.std.proofs.lemmas.List.Elements.{Contains-append_left, Contains-append_right, Contains-get_or}
use Rattle.std.proofs.lemmas.List.Sorted.{IsPermutation-refl}
use Rattle.std.proofs.lemmas.Option.{slice_get_within, slice_get-get_or, get_or_from_slice_get}
use Rattle.pci_spec.specs.Header.{layout, bar_count}
use Rattle.pci_spec.specs.Window.{WindowKind, IoWindow, MemoryWindow, PrefetchWindow}
use Rattle.pci_spec.specs.System.{System, Function, Part, Bar, Rom, Window, IsSystem, has_part}
use Rattle.pci_spec.specs.Bus.{is_root, IsNested, LeadsTo}
use Rattle.pci_spec.proofs.BusRanges.{root_means}
use Rattle.pci_spec.proofs.Members.{in_flat_map_from, in_map_from, in_filter_from, in_range_from}
use Rattle.pci_spec.proofs.Regions.{register_of-lt}
use Rattle.plan_spec.specs.Plan.{bridges_above}
use Rattle.plan_spec.proofs.Planning.AboveBuses.{all_above_root}
use Rattle.plan_spec.proofs.Planning.Safe.{slots_of, order_of}
use Rattle.settle_spec.specs.Lists.{Request}
use Rattle.settle_spec.specs.Parts.{FunctionPart, system_parts, function_parts, parts_of, is_part, header_bars, header_parts, addresses, lies_within, class_in, bridge_over}
use Rattle.settle_spec.specs.Stands.{rank, window_part, part_space, is_in_lists, is_in_window, is_kept_off, leads_to_told, is_in_place, takes_from, stands}
use Rattle.settle_spec.specs.Items.{has_room, has_room_behind}
use Rattle.settle_spec.proofs.BridgeOver.{over_is}
use Rattle.settle_laws.proofs.Standing.{part_of, stands_by_itself}
use Rattle.settle_laws.proofs.GrowingKept.{over_first}
use Rattle.settle_laws.proofs.Holding.{holds_by_bus}
use Rattle.pci_place.specs.Items.{no_function}
use Rattle.pci_first_fit.specs.declared.kept.Kept.{Kept}
use Rattle.pci_first_fit.specs.Kept.{kept_of, nothing_kept}
use Rattle.pci_kept.specs.declared.region.Region.{Region as CodeRegion}
use Rattle.pci_kept.specs.Boards.{IsKnown}
use Rattle.pci_kept.specs.Known.{Known, region_value, AreParts}
use Rattle.pci_kept.specs.Tables.{stands_in}
use Rattle.pci_kept.proofs.Indexes.{table_at, noted_here, noted_others}
use Rattle.pci_kept.proofs.Whole.{values_are, numbers_rise, known_sorted}
use Rattle.pci_kept.specs.Rooms.{region_bus}
use Rattle.pci_kept.specs.Holding.{AreNoted}
use Rattle.pci_kept.specs.Staying.{HoldsWhereStands, stays_by, IsStayedTo, AreStayingBy}
use Rattle.pci_kept.proofs.Rooms.{part_there}

-- a list with an index has an element
code_at : (xs : List CodeRegion) (i : ℕ) → i < length xs → CodeRegion
code_at [] i less = absurd (let no : ⊥ = omega (arith, less) in no)
code_at (x ∷ xs) i less = x

-- a part that a function has is one of its header
header_from : (f : Function) (p : Part) → has_part f p ≡ true → Contains (header_parts f) p
header_from f (Bar n) there =
    Contains-append_left (header_bars f) (Window IoWindow ∷ Window MemoryWindow ∷ Window PrefetchWindow ∷ Rom ∷ []) (Bar n)
    (in_map_from Bar (range_with_len 0 (bar_count (layout f.image))) n (in_range_from 0 (bar_count (layout f.image)) n (omega arith) (let low = ltb-true n (bar_count (layout f.image)) there in omega (arith, low))))
header_from f Rom there = Contains-append_right (header_bars f) (Window IoWindow ∷ Window MemoryWindow ∷ Window PrefetchWindow ∷ Rom ∷ []) Rom (3, omega arith, refl)
header_from f (Window IoWindow) there = Contains-append_right (header_bars f) (Window IoWindow ∷ Window MemoryWindow ∷ Window PrefetchWindow ∷ Rom ∷ []) (Window IoWindow) (0, omega arith, refl)
header_from f (Window MemoryWindow) there = Contains-append_right (header_bars f) (Window IoWindow ∷ Window MemoryWindow ∷ Window PrefetchWindow ∷ Rom ∷ []) (Window MemoryWindow) (1, omega arith, refl)
header_from f (Window PrefetchWindow) there = Contains-append_right (header_bars f) (Window IoWindow ∷ Window MemoryWindow ∷ Window PrefetchWindow ∷ Rom ∷ []) (Window PrefetchWindow) (2, omega arith, refl)

part_listed : (q : Request) (s : System) (f : Function) (p : Part) → Contains s f → has_part f p ≡ true → is_part q s f p ≡ true → Contains (system_parts q s) record { function = f; part = p }
part_listed q s f p in_f there is =
    in_flat_map_from (function_parts q s) s f record { function = f; part = p } in_f
    (in_map_from (λ o. record { function = f; part = o }) (parts_of q s f) p (in_filter_from (is_part q s f) (header_parts f) p (header_from f p there) is))

with_true : (b : Bool) → (b && true) ≡ b
with_true true = refl
with_true false = refl

module _ (q : Request) (s : System) (system : IsSystem s) (nested : IsNested q.roots s) where
  -- what has room behind it stands
  pub room_stands : HoldsWhereStands q s (has_room_behind q s)
  room_stands r listed is = (and_parts (stands q s r) (has_room q s (has_room_behind q s) r.function r.part) (sym (holds_by_bus q s system nested r listed) ∙ is)).0

module _ (q : Request) (s : System) (system : IsSystem s) (nested : IsNested q.roots s) (holds : FunctionPart → Bool) (stands_of : HoldsWhereStands q s holds) where
  -- what stands is a part
  is_part_of : (r : FunctionPart) → Contains s r.function → stands q s r ≡ true → is_part q s r.function r.part ≡ true
  is_part_of r listed is = (stands_by_itself q s nested).only r listed is

  no_part_holds : (r : FunctionPart) → Contains s r.function → is_part q s r.function r.part ≡ false → holds r ≡ false
  no_part_holds r listed off = false_from_ne_true (holds r) (λ is. both_ways (is_part q s r.function r.part) off (is_part_of r listed (stands_of r listed is)))

  no_hold_stays : (r : FunctionPart) → holds r ≡ false → stays_by q s holds r ≡ false
  no_hold_stays r off = ap (λ b. b && list_all (λ f. holds (window_part (class_in q s r.function r.part) f)) (bridges_above s r.function.slot.bus)) off

  on_root : (r : FunctionPart) → is_root q.roots r.function.slot.bus ≡ true → stays_by q s holds r ≡ holds r
  on_root r root =
      ap (λ b. holds r && b) (all_above_root q.roots s system nested (λ b. holds (window_part (class_in q s r.function r.part) b)) r.function.slot.bus ((root_means q.roots r.function.slot.bus).0 root))
      ∙ with_true (holds r)

  by_bus : (r : FunctionPart) (b : Function) → LeadsTo s b r.function.slot.bus
      → stays_by q s holds r ≡ (holds r && stays_by q s holds (window_part (class_in q s r.function r.part) b))
  by_bus r b leads = ap (λ x. holds r && x) (over_first q s system nested holds (class_in q s r.function r.part) b r.function.slot.bus leads)

  module _ (rs : List CodeRegion) (parts : AreParts q s rs) where
    abbrev value : CodeRegion → FunctionPart
    value = region_value s

    pub known_of_code : (x : CodeRegion) → Contains rs x → IsKnown q s x
    known_of_code x listed = known_sorted q s rs parts rs (IsPermutation-refl rs) x listed

    function_at : (x : CodeRegion) → Contains rs x → slice_get s x.function ≡ Some (value x).function
    function_at x listed = slice_get-get_or s x.function no_function (known_of_code x listed).within

    there_of : (x : CodeRegion) → Contains rs x → has_part (value x).function (value x).part ≡ true
    there_of x listed = part_there q s (value x) (known_of_code x listed).listed

    in_system : (x : CodeRegion) → Contains rs x → Contains s (value x).function
    in_system x listed = (part_of q s (value x) (known_of_code x listed).listed).listed

    bus_of : (x : CodeRegion) → Contains rs x → x.bus ≡ (value x).function.slot.bus
    bus_of x listed = ap (λ (k : Known). k.bus) (known_of_code x listed).all

    -- they come bus by bus
    pub buses_rise : IsNonDecreasingBy region_bus rs
    buses_rise i j d up within = elim (cases_eq i j) [
      | inl same ↦ (let one : (get_or rs i d).bus ≡ (get_or rs j d).bus = ap (λ n. (get_or rs n d).bus) same in omega (arith, one))
      | inr differ ↦
          let x = get_or rs i d in
          let y = get_or rs j d in
          let in_x = Contains-get_or rs i d (omega (arith, up, within)) in
          let in_y = Contains-get_or rs j d within in
          let rises : rank (value x) < rank (value y) = numbers_rise q s rs parts system i j d (omega (arith, up, differ)) within in
          let low = register_of-lt (value y).function (value y).part (there_of y in_y) in
          let slot_x = slots_of s system (value x).function (in_system x in_x) in
          let slot_y = slots_of s system (value y).function (in_system y in_y) in
          let device = slot_y.1 in
          let function = slot_y.2 in
          let bus_x = bus_of x in_x in
          let bus_y = bus_of y in_y in
          omega (arith, rises, low, device, function, bus_x, bus_y)
    ]

    -- the place of a part among those of the code
    place_of : (r : FunctionPart) → Contains (system_parts q s) r → (i : ℕ) × (i < length rs) × ((d : CodeRegion) → value (get_or rs i d) ≡ r)
    place_of r listed =
        let there : Contains (map value rs) r = subst (λ xs. Contains xs r) (sym (values_are q s rs parts)) listed in
        let i = there.0 in
        let low : i < length rs = (let inside = there.1 in let long = length-map rs value in omega (arith, inside, long)) in
        (i, low, λ d. sym (get_or-map value rs i d r low) ∙ there.2)

    pub stayed_none : (table : List Kept) → AreNoted s holds table → IsStayedTo q s holds rs 0 table
    stayed_none table are = record {
      count = are.count;
      opens = are.opens;
      told = λ i d less within. absurd (let no : ⊥ = omega (arith, less) in no);
      rest = λ i d from within. (
          let x = get_or rs i d in
          let listed = Contains-get_or rs i d within in
          let at = function_at x listed in
          table_at s system table x.function (value x).function (value x).part at ∙ are.each x.function (value x).function (value x).part at (there_of x listed));
      others = λ r in_r there none. (
          let at : slice_get s in_r.0 ≡ Some r.function = slice_get-get_or s in_r.0 r.function in_r.1 ∙ ap Some in_r.2 in
          table_at s system table in_r.0 r.function r.part at ∙ are.each in_r.0 r.function r.part at there
          ∙ no_part_holds r in_r (false_from_ne_true (is_part q s r.function r.part) (λ is. none (part_listed q s r.function r.part in_r there is))));
    }

    -- ---- one part

    module _ (n : ℕ) (x : CodeRegion) (within : n < length rs) (x_is : x ≡ get_or rs n x) (old : List Kept) (was : IsStayedTo q s holds rs n old) where
      abbrev v : FunctionPart
      v = value x

      abbrev bus : ℕ
      bus = v.function.slot.bus

      abbrev test : FunctionPart → Bool
      test = stands_in s old

      in_rs : Contains rs x
      in_rs = subst (Contains rs) (sym x_is) (Contains-get_or rs n x within)

      in_v : Contains s v.function
      in_v = in_system x in_rs

      before : test v ≡ holds v
      before = ap (λ y. test (value y)) x_is ∙ was.rest n x (omega arith) within ∙ ap (λ y. holds (value y)) (sym x_is)

      in_place_if : (stand : FunctionPart → Bool) → is_in_place q s stand v
          ≡ cond (is_root q.roots bus) (is_in_lists q bus (addresses v) (part_space v)) (is_in_window stand (class_in q s v.function v.part) (addresses v) (bridge_over s bus))
      in_place_if stand = refl

      stands_there : stands q s v ≡ true → is_in_place q s (stands q s) v ≡ true
      stands_there is =
          let all = sym ((stands_by_itself q s nested).each v (known_of_code x in_rs).listed) ∙ is in
          let before = not (is_kept_off q s v) && (leads_to_told q s v || not q.anew) && is_part q s v.function v.part in
          let front = (and_parts (before && is_in_place q s (stands q s) v) (list_all (λ t. not (takes_from q s t v && stands q s t)) (system_parts q s)) all).0 in
          (and_parts before (is_in_place q s (stands q s) v) front).1

      -- the window over a part that holds comes before it, and is told of
      module _ (b : Function) (leads : LeadsTo s b bus) (c : WindowKind) (is : stands q s (window_part c b) ≡ true) where
        abbrev over : FunctionPart
        over = window_part c b

        listed_over : Contains (system_parts q s) over
        listed_over = part_listed q s b (Window c) leads.0 leads.1 (is_part_of over leads.0 is)

        lower : rank over < rank v
        lower =
            let up = order_of q.roots s nested b leads.0 leads.1 in
            let to = leads.2 in
            let own = slots_of s system b leads.0 in
            let device = own.1 in
            let function = own.2 in
            let register = register_of-lt b (Window c) leads.1 in
            omega (arith, up, to, device, function, register)

        earlier : (i : ℕ) → i < length rs → value (get_or rs i x) ≡ over → i < n
        earlier i low same = elim (cases_lt i n) [
          | inl less ↦ less
          | inr from ↦
              let order = lower in
              let here : rank (value (get_or rs n x)) ≡ rank v = ap (λ y. rank (value y)) (sym x_is) in
              let there : rank (value (get_or rs i x)) ≡ rank over = ap rank same in
              elim (cases_eq i n) [
                | inl at ↦ (let one : rank (value (get_or rs i x)) ≡ rank (value (get_or rs n x)) = ap (λ m. rank (value (get_or rs m x))) at in absurd (let no : ⊥ = omega (arith, one, here, there, order) in no))
                | inr differ ↦ (let rises = numbers_rise q s rs parts system n i x (omega (arith, from, differ)) low in absurd (let no : ⊥ = omega (arith, rises, here, there, order) in no))
              ]
        ]

        told_over : test over ≡ stays_by q s holds over
        told_over =
            let place = place_of over listed_over in
            let same = place.2 x in
            ap test (sym same) ∙ was.told place.0 x (earlier place.0 place.1 same) place.1 ∙ ap (stays_by q s holds) same

      true_and : (a b : Bool) → a ≡ true → (a && b) ≡ b
      true_and a b is = ap (λ y. y && b) is

      -- a part that holds stays where it is in place by what the table tells
      pub stays_is : stays_by q s holds v ≡ (holds v && is_in_place q s test v)
      stays_is = elim (cases_Bool (holds v)) [
        | inr off ↦ no_hold_stays v off ∙ sym (ap (λ b. b && is_in_place q s test v) off)
        | inl on ↦ elim (cases_Bool (is_root q.roots bus)) [
          | inl root ↦
              let lists : (stand : FunctionPart → Bool) → is_in_place q s stand v ≡ is_in_lists q bus (addresses v) (part_space v) = λ stand.
              ap (λ b. cond b (is_in_lists q bus (addresses v) (part_space v)) (is_in_window stand (class_in q s v.function v.part) (addresses v) (bridge_over s bus))) root in
              let place : is_in_place q s test v ≡ true = lists test ∙ sym (lists (stands q s)) ∙ stands_there (stands_of v in_v on) in
              on_root v root ∙ on ∙ sym (ap (λ b. b && is_in_place q s test v) on ∙ place)
          | inr behind ↦
              let one = nested.one v.function in_v behind in
              let b = one.0 in
              let leads = one.1 in
              let c = class_in q s v.function v.part in
              let there : (stand : FunctionPart → Bool) → is_in_place q s stand v ≡ (lies_within (addresses v) (addresses (window_part c b)) && stand (window_part c b)) = λ stand.
              ap (λ y. cond y (is_in_lists q bus (addresses v) (part_space v)) (is_in_window stand c (addresses v) (bridge_over s bus))) behind
              ∙ ap (is_in_window stand c (addresses v)) (over_is q.roots s system nested bus b leads) in
              let both = and_parts (lies_within (addresses v) (addresses (window_part c b))) (stands q s (window_part c b)) (sym (there (stands q s)) ∙ stands_there (stands_of v in_v on)) in
              by_bus v b leads
              ∙ ap (λ y. holds v && y) (sym (told_over b leads c both.1) ∙ sym (true_and (lies_within (addresses v) (addresses (window_part c b))) (test (window_part c b)) both.0) ∙ sym (there test))
        ]
      ]

      with_false : (b : Bool) → (b && false) ≡ false
      with_false true = refl
      with_false false = refl

      -- it is in place
      pub stayed_same : is_in_place q s test v ≡ true → IsStayedTo q s holds rs (n + 1) old
      stayed_same place = record {
        count = was.count;
        opens = was.opens;
        told = λ i d less low. elim (cases_eq i n) [
          | inl same ↦
              let here : get_or rs i d ≡ x = get_or_default rs i d x low ∙ ap (λ m. get_or rs m x) same ∙ sym x_is in
              ap (λ y. test (value y)) here ∙ before ∙ sym (stays_is ∙ ap (λ b. holds v && b) place ∙ with_true (holds v)) ∙ ap (λ y. stays_by q s holds (value y)) (sym here)
          | inr differ ↦ was.told i d (omega (arith, less, differ)) low
        ];
        rest = λ i d from low. was.rest i d (omega (arith, from)) low;
        others = was.others;
      }

      -- or it isn't, and that is noted
      module _ (off : is_in_place q s test v ≡ false) (entry : Kept) (cleared : kept_of entry v.part ≡ false) (kept : (o : Part) → (o ≡ v.part → ⊥) → kept_of entry o ≡ kept_of (get_or old x.function nothing_kept) o) where
        abbrev new : List Kept
        new = set old x.function entry

        inside : x.function < length old
        inside = let low = (known_of_code x in_rs).within in let size = was.count in omega (arith, low, size)

        here : stands_in s new v ≡ false
        here = noted_here s system old x.function v.function (function_at x in_rs) inside v.part entry false cleared kept

        others_same : (t : FunctionPart) → Contains s t.function → (t ≡ v) ⊎ (stands_in s new t ≡ test t)
        others_same t in_t = noted_others s system old x.function v.function (function_at x in_rs) inside v.part entry false cleared kept t in_t

        -- another part of those of the code
        apart : (i : ℕ) (d : CodeRegion) → i ≢ n → i < length rs → value (get_or rs i d) ≡ v → ⊥
        apart i d differ low same =
            let first : rank (value (get_or rs i x)) ≡ rank v = ap (λ y. rank (value y)) (get_or_default rs i x d low) ∙ ap rank same in
            let last : rank (value (get_or rs n x)) ≡ rank v = ap (λ y. rank (value y)) (sym x_is) in
            elim (cases_lt i n) [
              | inl less ↦ (let rises = numbers_rise q s rs parts system i n x less within in let no : ⊥ = omega (arith, rises, first, last) in no)
              | inr from ↦ (let rises = numbers_rise q s rs parts system n i x (omega (arith, from, differ)) low in let no : ⊥ = omega (arith, rises, first, last) in no)
            ]

        same_at : (i : ℕ) (d : CodeRegion) → i ≢ n → i < length rs → stands_in s new (value (get_or rs i d)) ≡ test (value (get_or rs i d))
        same_at i d differ low = elim (others_same (value (get_or rs i d)) (in_system (get_or rs i d) (Contains-get_or rs i d low))) [
          | inl same ↦ absurd (apart i d differ low same)
          | inr same ↦ same
        ]

        pub stayed_less : IsStayedTo q s holds rs (n + 1) new
        stayed_less = record {
          count = length-set old x.function entry ∙ was.count;
          opens = λ c b in_b is. elim (others_same (window_part c b) in_b) [
            | inl same ↦ absurd (both_ways (stands_in s new v) here (ap (stands_in s new) (sym same) ∙ is))
            | inr same ↦ was.opens c b in_b (sym same ∙ is)
          ];
          told = λ i d less low. elim (cases_eq i n) [
            | inl same ↦
                let at : get_or rs i d ≡ x = get_or_default rs i d x low ∙ ap (λ m. get_or rs m x) same ∙ sym x_is in
                ap (λ y. stands_in s new (value y)) at ∙ here ∙ sym (stays_is ∙ ap (λ b. holds v && b) off ∙ with_false (holds v)) ∙ ap (λ y. stays_by q s holds (value y)) (sym at)
            | inr differ ↦ same_at i d differ low ∙ was.told i d (omega (arith, less, differ)) low
          ];
          rest = λ i d from low. same_at i d (λ same. let no : ⊥ = omega (arith, from, same) in no) low ∙ was.rest i d (omega (arith, from)) low;
          others = λ r in_r there none. elim (others_same r in_r) [
            | inl same ↦ absurd (none (subst (Contains (system_parts q s)) (sym same) (known_of_code x in_rs).listed))
            | inr same ↦ same ∙ was.others r in_r there none
          ];
        }

    -- ---- all of them

    pub all_stay : (n : ℕ) → length rs ≤ n → (table : List Kept) → IsStayedTo q s holds rs n table → AreStayingBy q s holds table
    all_stay n past table are = record {
      count = are.count;
      opens = are.opens;
      each = λ k f p at there. (
          let r : FunctionPart = record { function = f; part = p } in
          let in_f : Contains s f = (k, slice_get_within s k f at, get_or_from_slice_get s k f f at) in
          sym (table_at s system table k f p at)
          ∙ elim (cases_Bool (is_part q s f p)) [
            | inl is ↦
                let place = place_of r (part_listed q s f p in_f there is) in
                let low = place.1 in
                listed_stays table are place.0 place.1 (omega (arith, low, past)) r place.2
            | inr off ↦
                are.others r in_f there (λ listed. both_ways (is_part q s f p) off (part_of q s r listed).is)
                ∙ sym (no_hold_stays r (no_part_holds r in_f off))
          ]);
    }
      where
        listed_stays : (table : List Kept) → IsStayedTo q s holds rs n table → (i : ℕ) → i < length rs → i < n → (r : FunctionPart) → ((d : CodeRegion) → value (get_or rs i d) ≡ r) → stands_in s table r ≡ stays_by q s holds r
        listed_stays table are i low less r same =
            let x = code_at rs i low in
            ap (stands_in s table) (sym (same x)) ∙ are.told i x less low ∙ ap (stays_by q s holds) (same x)
