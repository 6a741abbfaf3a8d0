-- Where everything fits planning's pools, placing all anew in them lacks room nowhere.
use Rattle.std.proofs.Common.{◌≡◌, ◌&&◌, ℕ, ◌%◌, ◌^◌, ◌<◌, ◌≤◌, ◌⊎◌, inl, inr, max, List, [], ◌∷◌, ◌++◌, true, false, cond, arith, refl, sym, ◌∙◌, ap, subst, append-nil, Option, None}
use Rattle.std.specs.Bool.{nat_lt, nat_le}
use Rattle.std.specs.List.{Contains, sum, sum_by}
use Rattle.std.specs.List.Sorted.{IsStrictlyIncreasing}
use Rattle.std.proofs.lemmas.Bool.{and_parts, and_from, or_right, both_ways, cases_Bool, cases_lt, le-leb, leb-true}
use Rattle.std.proofs.lemmas.List.Sorted.{IsPermutation-sym, Contains-permutation}
use Rattle.std.proofs.lemmas.List.Sums.{sum_by-cons}
use Rattle.pci_spec.specs.Bar.{has_bar}
use Rattle.pci_spec.specs.Rom.{has_rom, rom_is_on}
use Rattle.pci_spec.specs.Decoded.{Range}
use Rattle.pci_spec.specs.Header.{layout, bar_count}
use Rattle.pci_spec.specs.Window.{WindowKind, IoWindow, MemoryWindow, PrefetchWindow}
use Rattle.pci_spec.specs.System.{System, Function, IsSystem, Space, Io, Memory, Part, Bar, Rom, Window, has_part, is_bridge}
use Rattle.pci_spec.specs.Bus.{is_root, are_siblings, secondary, IsNested}
use Rattle.pci_spec.proofs.BusRanges.{root_means}
use Rattle.pci_spec.proofs.Members.{in_nil, in_head, in_map_to, in_map_from, IsMade}
use Rattle.plan_spec.specs.Plan.{Pools, pool_of, limited, need_of, window_size, are_bad, class_of, same_class, greatest, raised_to, greatest_of_roots}
use Rattle.plan_spec.specs.Place.{Item as PlannedItem, items_beside}
use Rattle.plan_spec.specs.PlanPromise.{CanBePlanned}
use Rattle.plan_spec.specs.Planning.Layout.{IsInside, is_item}
use Rattle.plan_spec.specs.Planning.Numbers.{item_of}
use Rattle.plan_spec.specs.Planning.Placing.{IsPower}
use Rattle.plan_spec.specs.Planning.Room.{root_items}
use Rattle.plan_spec.specs.Planning.Table.{need_behind, size_in, is_placed}
use Rattle.plan_spec.proofs.Planning.Behind.{behind_by_test}
use Rattle.plan_spec.proofs.Planning.Greatest.{greatest_on_roots}
use Rattle.plan_spec.proofs.Planning.Insertion.{ordered_permutes}
use Rattle.plan_spec.proofs.Planning.PlacedItems.{sorted_on, sorted_to, sorted_from}
use Rattle.plan_spec.proofs.Planning.Placement.{mod_of_multiple, power_multiple, power_pos, sum_cons}
use Rattle.plan_spec.proofs.Planning.Places.{beside_root}
use Rattle.plan_spec.proofs.Planning.Placings.{small_needs}
use Rattle.plan_spec.proofs.Planning.Reach.{AreGood, good_pools, pool_below}
use Rattle.plan_spec.proofs.Planning.Room.{raised, room_of_fit}
use Rattle.plan_spec.proofs.Planning.Sizes.{item_sizes, sum_on_roots}
use Rattle.plan_spec.proofs.Planning.Tables.{class_itself}
use Rattle.settle_spec.specs.FirstPlace.{Extent, is_high}
use Rattle.settle_spec.specs.Lists.{Request, class_ranges}
use Rattle.settle_spec.specs.Parts.{class_in, bridge_over}
use Rattle.settle_spec.specs.Items.{PlacingItem, Placed, Placing, AllPlaced, Lacks, place_all, are_placed, bus_items, new_window}
use Rattle.settle_spec.specs.Places.{wide_ranges, placed_of, first_lack}
use Rattle.settle_spec.specs.Keeping.Places.{space_items, placing_within, placing_on, root_lack}
use Rattle.settle_spec.proofs.LaidOut.{greatest_more}
use Rattle.settle_laws.specs.PlanLaws.{anew_in, IsNoLarger, WindowsAreNoLarger, SettlesWherePlanned}
use Rattle.settle_spec.specs.Kept.{Kept, as_it_stands}
use Rattle.settle_spec.proofs.Anew.{none_stays}
use Rattle.settle_laws.proofs.Anew.{new_ranges, ranges_anew, placing_anew}
use Rattle.settle_laws.proofs.ItemForms.{extent_by, item_by, IsPlaceable, IsOwnPart, IsNewWindow, IsItemOf, items_are}
use Rattle.settle_laws.proofs.NoLarger.{window_fits, items_aside, item_aside}
use Rattle.settle_laws.proofs.OneByOne.{IsSetAside, HasFirst, all_in_first}
use Rattle.settle_laws.proofs.PlannedSizes.{planned, has_planned_behind, items_below}
use Rattle.settle_laws.proofs.Powers.{below_greatest, greatest_power, multiple_below}
use Rattle.settle_laws.proofs.WideWindows.{classes_planned, io_items, memory_items, prefetch_items, wide_items}

ranges_are : (roots : List ℕ) (pools : Pools) (c : WindowKind) (bus : ℕ) → class_ranges (anew_in roots pools) c bus ≡ pool_of pools c ∷ []
ranges_are roots pools IoWindow bus = refl
ranges_are roots pools MemoryWindow bus = refl
ranges_are roots pools PrefetchWindow bus = refl

-- memory and prefetchable memory share no address
pools_apart : (pools : Pools) → are_bad pools ≡ false → (pools.memory.last < pools.prefetch.first) ⊎ (pools.prefetch.last < pools.memory.first)
pools_apart pools good = elim (cases_lt pools.prefetch.last pools.memory.first) [
  | inl right ↦ inr right
  | inr low ↦ elim (cases_lt pools.memory.last pools.prefetch.first) [
    | inl left ↦ inl left
    | inr high ↦ absurd (both_ways (are_bad pools) good (or_right _ (nat_le pools.memory.first pools.prefetch.last && nat_le pools.prefetch.first pools.memory.last)
        (and_from (nat_le pools.memory.first pools.prefetch.last) (nat_le pools.prefetch.first pools.memory.last) (le-leb pools.memory.first pools.prefetch.last low) (le-leb pools.prefetch.first pools.memory.last high))))
  ]
]

nothing_needed : (size : PlacingItem → ℕ) (items : List PlacingItem) → ((i : PlacingItem) → Contains items i → 0 < size i) → sum_by size items ≤ 0 → items ≡ []
nothing_needed size [] some none = refl
nothing_needed size (i ∷ items) some none =
    let step = sum_by-cons size i items in
    let here = some i (in_head i items) in
    absurd (let no : ⊥ = omega (arith, step, here, none) in no)

-- a sum of something has a greatest term that isn't 0
some_greatest : (sizes : List ℕ) → 0 < sum sizes → 0 < greatest sizes
some_greatest [] some = absurd (let no : ⊥ = omega (arith, some) in no)
some_greatest (x ∷ sizes) some =
    let step = sum_cons x sizes in
    let more = greatest_more x sizes in
    elim (cases_lt 0 x) [
      | inl here ↦ omega (arith, more, here)
      | inr none ↦ (let rest = some_greatest sizes (omega (arith, step, some, none)) in omega (arith, more, rest))
    ]

lacks_none : (p : Placing) (other : Option PlacingItem) → are_placed p ≡ true → first_lack p other ≡ other
lacks_none (AllPlaced placed) other is = refl
lacks_none (Lacks i) other is = absurd (both_ways false refl is)

module _ (roots : List ℕ) (s : System) (pools : Pools) (system : IsSystem s) (nested : IsNested roots s) (rising : IsStrictlyIncreasing roots)
    (top : pools.prefetch.last < 2 ^ 64) (can : CanBePlanned roots s pools) (root : ℕ) (is_one : is_root roots root ≡ true) where
  abbrev q : Request
  q = anew_in roots pools

  abbrev k : Kept
  k = as_it_stands q s

  abbrev new : WindowKind → Function → Extent
  new c b = new_window q s c b

  good : AreGood pools
  good = good_pools pools can.good

  module _ (c : WindowKind) where
    abbrev pool : Range
    pool = pool_of pools c

    abbrev size : PlacingItem → ℕ
    size i = planned s pools c i

    abbrev items : List PlacingItem
    items = bus_items q s c k.stays (new_window q s c) root

    below : pool.last < 2 ^ 64
    below = pool_below pools good top c

    small : (b : Function) → Contains s b → is_bridge b ≡ true → need_behind s pools c b ≤ 2 ^ 65
    small = small_needs roots s pools c system nested (can.room c) below

    classes : (f : Function) (p : Part) → class_in q s f p ≡ class_of s pools f p
    classes f p = classes_planned roots s pools f p

    abbrev start : ℕ
    start = raised_to (greatest_of_roots roots s pools c) pool.first

    -- an item of the roots is one of planning
    is_planned : (i : PlacingItem) → IsItemOf q s (new_window q s) c root i → is_placed s pools c i.region.function i.region.part ≡ true
    is_planned i is = subst (λ (j : PlacingItem). is_placed s pools c j.region.function j.region.part ≡ true) is.is (by is.p is.there (sym (ap (same_class c) (sym (classes is.f is.p) ∙ is.class))) is.can)
      where
        by : (p : Part) → has_part is.f p ≡ true → same_class c c ≡ same_class c (class_of s pools is.f p) → IsPlaceable q s c is.f p → is_placed s pools c is.f p ≡ true
        by (Bar n) there class (IsOwnPart plain part) =
            and_from (is_item is.f (Bar n)) (same_class c (class_of s pools is.f (Bar n)))
            (and_from (nat_lt n (bar_count (layout is.f.image))) (has_bar is.f.probe n) there (and_parts (has_bar is.f.probe n) _ part).0) (sym class ∙ class_itself c)
        by Rom there class (IsOwnPart plain part) =
            and_from (is_item is.f Rom) (same_class c (class_of s pools is.f Rom)) (and_parts (has_rom is.f.image is.f.probe) (rom_is_on is.f.image) part).0 (sym class ∙ class_itself c)
        by (Window kind) there class (IsOwnPart plain part) = absurd (both_ways true plain refl)
        by p there class (IsNewWindow window bridge has) =
            subst (λ o. is_placed s pools c is.f o ≡ true) (sym window)
            (and_from (is_bridge is.f && same_class c c) (nat_lt 0 (need_behind s pools c is.f)) (and_from (is_bridge is.f) (same_class c c) bridge (class_itself c))
            (sym (behind_by_test roots s pools c system nested is.f is.listed bridge) ∙ has_planned_behind q s pools c classes is.f has))

    abbrev sizes : List ℕ
    sizes = item_sizes (items_beside roots s pools c root)

    all_powers : (n : ℕ) → Contains sizes n → IsPower n
    all_powers n has =
        let made : IsMade (λ (i : PlannedItem). i.size) (items_beside roots s pools c root) n = in_map_to (λ (i : PlannedItem). i.size) (items_beside roots s pools c root) n has in
        subst IsPower made.is
        (sorted_to roots s pools c system nested small root made.from
        (Contains-permutation (items_beside roots s pools c root) (sorted_on roots s pools c system nested small root) made.from (ordered_permutes (items_beside roots s pools c root)) made.has)).part.power

    size_listed : (i : PlacingItem) → IsItemOf q s (new_window q s) c root i → Contains sizes (size i)
    size_listed i is =
        let f = i.region.function in
        let p = i.region.part in
        let listed = subst (λ (j : PlacingItem). Contains s j.region.function) is.is is.listed in
        let beside = subst (λ (j : PlacingItem). are_siblings roots root j.region.function.slot.bus ≡ true) is.is is.beside in
        let there = sorted_from roots s pools c system nested small root f p listed beside (is_planned i is) in
        let of = sorted_to roots s pools c system nested small root (item_of s pools f p) there in
        let own : size_in s pools c f p ≡ (item_of s pools f p).size = sym (same_item f p) ∙ of.part.size in
        subst (Contains sizes) (sym own)
        (in_map_from (λ (i : PlannedItem). i.size) (items_beside roots s pools c root) (item_of s pools f p)
        (Contains-permutation (sorted_on roots s pools c system nested small root) (items_beside roots s pools c root) (item_of s pools f p)
        (IsPermutation-sym (items_beside roots s pools c root) (sorted_on roots s pools c system nested small root) (ordered_permutes (items_beside roots s pools c root))) there))
      where
        same_item : (f : Function) (p : Part) → size_in s pools c (item_of s pools f p).function (item_of s pools f p).part ≡ size_in s pools c f p
        same_item f (Bar n) = refl
        same_item f Rom = refl
        same_item f (Window kind) = refl

    windows : (b : Function) → Contains s b → is_bridge b ≡ true → are_siblings roots root b.slot.bus ≡ true → IsSetAside (new c b) (size_in s pools c b (Window c))
    windows b listed bridge beside = window_fits q s pools c system nested classes small refl b listed bridge

    item_is : (i : PlacingItem) → Contains items i → IsItemOf q s (new_window q s) c root i
    item_is i has = items_are q s (new_window q s) c k.stays root i has

    one_aside : (i : PlacingItem) → Contains items i → IsSetAside i.extent (size i)
    one_aside i has = item_aside q s pools c system nested classes small root i (item_is i has) windows

    start_even : (i : PlacingItem) → Contains items i → (start % i.extent.alignment ≡ 0) × (pool.first ≤ start)
    start_even i has =
        let aside = one_aside i has in
        let most = below_greatest sizes (size i) (size_listed i (item_is i has)) in
        let power = greatest_power (size i) sizes aside.power all_powers in
        let whole : max (size i) (greatest sizes) ≡ greatest_of_roots roots s pools c = (let e : max (size i) (greatest sizes) ≡ greatest sizes = omega (arith, most) in e) ∙ greatest_on_roots roots s pools c system nested root is_one in
        let is_power = subst IsPower whole power in
        let even = aside.even in
        let up = raised (greatest_of_roots roots s pools c) pool.first (power_pos (greatest_of_roots roots s pools c) is_power) in
        (multiple_below start (greatest_of_roots roots s pools c) i.extent.alignment is_power aside.aligned (omega (arith, even, most, whole)) up.multiple, up.from)

    -- ---- the pool comes first

    pool_in_reach : (i : PlacingItem) → IsItemOf q s (new_window q s) c root i → pool.last ≤ i.extent.highest
    pool_in_reach i is = by c is
      where
        by : (d : WindowKind) → IsItemOf q s (new_window q s) d root i → (pool_of pools d).last ≤ i.extent.highest
        by IoWindow is = (let top = good.io in let high = io_items q s pools system nested (λ f p. classes_planned roots s pools f p) root i is in omega (arith, top, high))
        by MemoryWindow is = (let top = good.memory in let high = memory_items q s pools system nested (λ f p. classes_planned roots s pools f p) root i is in omega (arith, top, high))
        by PrefetchWindow is = elim (cases_Bool (nat_le pools.prefetch.last 0xffff_ffff)) [
          | inl lower ↦
              let last = leb-true pools.prefetch.last 0xffff_ffff lower in
              let high = prefetch_items q s pools system nested (λ f p. classes_planned roots s pools f p) root i is in
              omega (arith, last, high)
          | inr over ↦ (let high = wide_items q s pools system nested (λ f p. classes_planned roots s pools f p) over root i is in omega (arith, top, high))
        ]

    has_first : (over : ℕ → List Placed) (i : PlacingItem) → Contains items i → HasFirst (ranges_anew q s over) pool i
    has_first over i has =
        let is = item_is i has in
        let f = is.f in
        let e = extent_by (new_window q s) f is.p in
        let on_root : is_root roots f.slot.bus ≡ true = sym (beside_root roots root f.slot.bus is_one) ∙ is.beside in
        let more = cond (is_high e) (wide_ranges q c f.slot.bus) [] in
        let begins : ranges_anew q s over (item_by (new_window q s) c f is.p) ≡ pool ∷ more =
        ap (λ b. cond b (class_ranges q c f.slot.bus ++ more) (new_ranges over c (bridge_over s f.slot.bus))) on_root
        ∙ ap (λ rs. rs ++ more) (ranges_are roots pools c f.slot.bus) in
        record {
          more = more;
          begins = ap (ranges_anew q s over) (sym is.is) ∙ begins;
          below = pool_in_reach i is;
        }

    -- so the items of a class have room in its pool, whatever is taken outside it
    pub class_placed : (over : ℕ → List Placed) (others : List PlacingItem) (taken : List Range)
        → ((t : Range) → Contains taken t → (t.last < pool.first) ⊎ (pool.last < t.first))
        → ((later : List Range) → ((t : Range) → Contains later t → Contains taken t ⊎ IsInside t pool) → are_placed (place_all (ranges_anew q s over) later others) ≡ true)
        → are_placed (place_all (ranges_anew q s over) taken (items ++ others)) ≡ true
    class_placed over others taken off rest =
        let total = sum (root_items roots s pools c) in
        let within = items_below q s pools c classes system nested small k.stays (new_window q s c) root in
        let same = sum_on_roots s pools c roots system nested root is_one rising in
        elim (cases_lt 0 total) [
          | inr none ↦
              let e = nothing_needed size items (λ i has. power_pos (size i) (one_aside i has).power) (omega (arith, within, same, none)) in
              subst (λ xs. are_placed (place_all (ranges_anew q s over) taken (xs ++ others)) ≡ true) (sym e) (rest taken (λ t has. inl has))
          | inl some ↦
              let room = room_of_fit roots s pools c (can.room c) below some in
              let aside = items_aside q s pools c system nested classes small k.stays start root windows (λ i has. (start_even i has).0) in
              let from = pool_from some in
              all_in_first size (ranges_anew q s over) pool others start taken items aside from (omega (arith, room, within, same))
              (has_first over)
              (λ t has. elim (off t has) [ inl under ↦ inl (omega (arith, under, from)) | inr past ↦ inr past ])
              rest
        ]
      where
        -- the greatest size isn't 0 where something is needed
        pool_from : 0 < sum (root_items roots s pools c) → pool.first ≤ start
        pool_from some = (raised (greatest_of_roots roots s pools c) pool.first (some_greatest (root_items roots s pools c) some)).from

  -- ---- the roots

  abbrev lower : Space → ℕ → List Placed
  lower space over = placed_of (placing_within q s k space 255 over)

  placing_is : (space : Space) → placing_on q s k space root ≡ place_all (ranges_anew q s (lower space)) [] (space_items q s k space root)
  placing_is space = placing_anew q refl s k (none_stays q s refl refl) space 255 root

  none_in : (t : Range) → Contains [] t → (A : Type 0) → A
  none_in t has A = absurd (in_nil t has)

  pub io_placed : are_placed (placing_on q s k Io root) ≡ true
  io_placed =
      ap are_placed (placing_is Io)
      ∙ ap (λ xs. are_placed (place_all (ranges_anew q s (lower Io)) [] xs)) (sym (append-nil (space_items q s k Io root)))
      ∙ class_placed IoWindow (lower Io) [] [] (λ t has. none_in t has _) (λ later lie. refl)

  prefetch_placed : (later : List Range) → ((t : Range) → Contains later t → Contains [] t ⊎ IsInside t pools.memory)
      → are_placed (place_all (ranges_anew q s (lower Memory)) later (items PrefetchWindow)) ≡ true
  prefetch_placed later lie =
      ap (λ xs. are_placed (place_all (ranges_anew q s (lower Memory)) later xs)) (sym (append-nil (items PrefetchWindow)))
      ∙ class_placed PrefetchWindow (lower Memory) [] later
      (λ t has. elim (lie t has) [
        | inl none ↦ none_in t none _
        | inr inside ↦
            let from = inside.0 in
            let to = inside.1 in
            elim (pools_apart pools can.good) [
              | inl left ↦ inl (omega (arith, left, to))
              | inr right ↦ inr (omega (arith, right, from))
            ]
      ])
      (λ more within. refl)

  pub memory_placed : are_placed (placing_on q s k Memory root) ≡ true
  memory_placed =
      ap are_placed (placing_is Memory)
      ∙ class_placed MemoryWindow (lower Memory) (items PrefetchWindow) [] (λ t has. none_in t has _) prefetch_placed

  pub root_has_room : root_lack q s k root ≡ None
  root_has_room =
      lacks_none (placing_on q s k Io root) (first_lack (placing_on q s k Memory root) None) io_placed
      ∙ lacks_none (placing_on q s k Memory root) None memory_placed

-- all roots are one bus
pub settles_where_planned : SettlesWherePlanned
settles_where_planned [] s pools system nested rising top can = refl
settles_where_planned (root ∷ roots) s pools system nested rising top can =
    root_has_room (root ∷ roots) s pools system nested rising top can root ((root_means (root ∷ roots) root).1 (in_head root roots))

pub windows_are_no_larger : WindowsAreNoLarger
windows_are_no_larger roots s pools c b system nested below fit listed bridge =
    let small = small_needs roots s pools c system nested fit below in
    let fits = window_fits (anew_in roots pools) s pools c system nested (λ f p. classes_planned roots s pools f p) small refl b listed bridge in
    let less = small b listed bridge in
    let same : window_size c (need_behind s pools c b) ≡ window_size c (need_of s pools c (secondary b)) = ap (window_size c) (let e : need_behind s pools c b ≡ limited (need_behind s pools c b) = omega (arith, less) in e) in
    let holds = fits.holds in
    subst (IsNoLarger (new_window (anew_in roots pools) s c b)) same record {
      size = holds;
      alignment = mod_of_multiple (window_size c (need_behind s pools c b)) (new_window (anew_in roots pools) s c b).alignment (power_multiple (window_size c (need_behind s pools c b)) (new_window (anew_in roots pools) s c b).alignment fits.power fits.aligned fits.even);
    }
