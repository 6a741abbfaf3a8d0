-- Where everything has its place in pools that the lists have, each part stands, and no I/O BAR is left.
use Rattle.std.proofs.Common.{◌≡◌, ◌&&◌, ◌||◌, ℕ, zero, suc, ◌<◌, inl, inr, List, [], ◌∷◌, map, Bool, true, false, cond, not, arith, refl, sym, ◌∙◌, ap, subst}
use Rattle.std.specs.Bool.{nat_lt, if◌then◌else◌}
use Rattle.std.specs.List.{Contains, filter, list_any, range_with_len}
use Rattle.std.proofs.lemmas.Bool.{and_from, and_parts, and_right, both_ways, cases_Bool, lt-ltb}
use Rattle.pci_spec.specs.Header.{layout, bar_count}
use Rattle.pci_spec.specs.Bar.{bar_at, has_bar, is_io, is_prefetchable}
use Rattle.pci_spec.specs.Rom.{has_rom, rom_is_on}
use Rattle.pci_spec.specs.Decoded.{Range}
use Rattle.pci_spec.specs.Window.{WindowKind, IoWindow, MemoryWindow, PrefetchWindow, has_window}
use Rattle.pci_spec.specs.System.{System, Function, IsSystem, Part, Bar, Rom, Window, is_implemented}
use Rattle.pci_spec.specs.Bus.{are_siblings, is_root, LeadsTo}
use Rattle.pci_spec.specs.Sound.{IsSound}
use Rattle.pci_spec.proofs.BusRanges.{root_means}
use Rattle.pci_spec.proofs.Members.{in_map_to, IsMade, in_range_to}
use Rattle.plan_spec.specs.Plan.{Pools, pool_of, are_bad, bridges_above, class_of, is_open, is_served}
use Rattle.plan_spec.specs.Planning.Layout.{is_item, IsInside, IsLaidOut}
use Rattle.plan_spec.proofs.Planning.AboveBuses.{root_or_led}
use Rattle.plan_spec.proofs.Planning.Behind.{Passes, any_gives, any_from}
use Rattle.plan_spec.proofs.Planning.LaidOut.{opening}
use Rattle.plan_spec.proofs.Planning.Safe.{order_of}
use Rattle.settle_spec.specs.FirstPlace.{ranges_are_apart}
use Rattle.settle_spec.specs.Lists.{Request, RootRange, is_had_by, class_ranges}
use Rattle.settle_spec.specs.Parts.{FunctionPart, system_parts, header_bars, header_parts, addresses, has_left, is_empty, is_left, is_part, lies_within, upper_pools, is_in_memory, is_in_prefetch, bridge_over, class_in, are_same_space}
use Rattle.settle_spec.specs.Stands.{rank, window_part, part_space, are_beside, is_in_lists, is_in_window, is_in_place, is_listed, stands}
use Rattle.settle_laws.proofs.AllInPlace.{all_in_place, apart_from, beside_of, looked, looked_at, two_of}
use Rattle.settle_laws.proofs.HeaderParts.{part_cases}
use Rattle.settle_laws.proofs.InLists.{listed_in, within_from, within_gives}
use Rattle.settle_laws.proofs.Kept.{off_roots, one_space}
use Rattle.settle_laws.proofs.PartClasses.{by_tests, by_windows}
use Rattle.settle_laws.proofs.Untold.{none_kept_off}
use Rattle.settle_laws.specs.SettledPlans.{HasPools}
use Rattle.settle_laws.proofs.Placed.{beside_apart, classes_agree, in_memory, in_prefetch, not_in_memory, open_above, over, space_by_class}
use Rattle.settle_laws.proofs.NonePasses.{none_by}

inside_through : (r w v : Range) → IsInside r w → IsInside w v → IsInside r v
inside_through r w v (from, to) (first, last) = (omega (arith, from, first), omega (arith, to, last))

-- a range in which another lies has all that lies in that
pub listed_inside : (q : Request) (bus : ℕ) (r w : Range) (c : WindowKind) → IsInside r w → is_listed q bus w c ≡ true → is_listed q bus r c ≡ true
listed_inside q bus r w c inside h =
    let found : Passes (lies_within w) (class_ranges q c bus) = any_gives (lies_within w) (class_ranges q c bus) h in
    any_from (lies_within r) (class_ranges q c bus) found.x found.listed (within_from r found.x (inside_through r w found.x inside (within_gives w found.x found.is)))

module _ (q : Request) (t : System) (pools : Pools) (system : IsSystem t) (sound : IsSound q.roots t) (laid : IsLaidOut q.roots t pools) (has : HasPools q pools) where
  -- ---- what is looked at has its place

  item_of : (f : Function) (p : Part) → Contains (header_parts f) p → is_part q t f p ≡ true → is_item f p ≡ true
  item_of f p there part = elim (part_cases f p there) [
    | inl bar ↦ subst (λ o. is_item f o ≡ true) bar.is
        (and_from (nat_lt bar.n (bar_count (layout f.image))) (has_bar f.probe bar.n) (lt-ltb bar.n (bar_count (layout f.image)) bar.inside)
        (and_parts (has_bar f.probe bar.n) (not (is_left q t f (Bar bar.n))) (ap (is_part q t f) bar.is ∙ part)).0)
    | inr (inl window) ↦ subst (λ o. is_item f o ≡ true) window.is (ap (is_part q t f) window.is ∙ part)
    | inr (inr rom) ↦ subst (λ o. is_item f o ≡ true) rom (and_parts (has_rom f.image f.probe) (rom_is_on f.image) (ap (is_part q t f) rom ∙ part)).0
  ]

  record HasPlace (r : FunctionPart) : Type 0 where
    listed : Contains t r.function
    item : is_item r.function r.part ≡ true

  has_place : (r : FunctionPart) → Contains (system_parts q t) r → HasPlace r
  has_place r in_r = let is = looked q t r in_r in record { listed = is.listed; item = item_of r.function r.part is.there is.part }

  -- ---- no I/O BAR is left

  -- there is a root, and it has I/O
  some_root : (n : ℕ) (f : Function) → f.slot.bus < n → Contains t f → (root : ℕ) × Contains q.roots root
  some_root zero f less listed = absurd (let no : ⊥ = omega (arith, less) in no)
  some_root (suc n) f less listed = elim (root_or_led q.roots t system sound.nested f listed) [
    | inl root ↦ (f.slot.bus, root)
    | inr (b, leader) ↦
        let to = leader.leads in
        let up = order_of q.roots t sound.nested b leader.listed leader.bridge in
        some_root n b (omega (arith, less, to, up)) leader.listed
  ]

  some_io : (root : ℕ) → Contains q.roots root → (ranges : List RootRange) → q.lists.io ≡ ranges → is_empty ranges ≡ false
  some_io root is_one (r ∷ more) e = refl
  some_io root is_one [] e = absurd (both_ways (is_listed q root (pool_of pools IoWindow) IoWindow)
      (ap (λ rs. list_any (lies_within (pool_of pools IoWindow)) (map (λ (r : RootRange). r.range) (filter (λ r. is_had_by r.root root) rs))) e)
      (has.listed root IoWindow is_one))

  not_left : (f : Function) (n : ℕ) → Contains t f → is_item f (Bar n) ≡ true → is_left q t f (Bar n) ≡ false
  not_left f n listed item = elim (cases_Bool (is_io (bar_at f.probe n))) [
    | inr memory ↦ ap (λ b. b && (is_empty q.lists.io || list_any none (bridges_above t f.slot.bus))) memory
    | inl io ↦
        let root = some_root (suc f.slot.bus) f (omega arith) listed in
        let class : class_of t pools f (Bar n) ≡ IoWindow = (λ i. if io i then IoWindow else if is_prefetchable (bar_at f.probe n) && is_served t pools f n then PrefetchWindow else MemoryWindow) in
        ap (λ b. b && (is_empty q.lists.io || list_any none (bridges_above t f.slot.bus))) io
        ∙ ap (λ b. b || list_any none (bridges_above t f.slot.bus)) (some_io root.0 root.1 q.lists.io refl)
        ∙ none_by none (bridges_above t f.slot.bus) (λ b above.
        ap not (opening b IoWindow (subst (λ c. is_open b c ≡ true) class (open_above q.roots t pools system sound laid f (Bar n) b listed item above))).there)
  ]
    where
      none : Function → Bool
      none b = not (has_window IoWindow b.probe)

  pub leaves_nothing : (f : Function) → Contains t f → has_left q t f ≡ false
  leaves_nothing f listed = none_by (λ p. is_implemented f p && is_left q t f p) (header_bars f) (λ p in_header.
      let made : IsMade Bar (range_with_len 0 (bar_count (layout f.image))) p = in_map_to Bar (range_with_len 0 (bar_count (layout f.image))) p in_header in
      let inside = (in_range_to 0 (bar_count (layout f.image)) made.from made.has).1 in
      subst (λ o. (is_implemented f o && is_left q t f o) ≡ false) made.is (by made.from (omega (arith, inside))))
    where
      by : (n : ℕ) → n < bar_count (layout f.image) → (has_bar f.probe n && is_left q t f (Bar n)) ≡ false
      by n inside = elim (cases_Bool (has_bar f.probe n)) [
        | inr none ↦ ap (λ b. b && is_left q t f (Bar n)) none
        | inl there ↦ and_right (has_bar f.probe n) (is_left q t f (Bar n))
            (not_left f n listed (and_from (nat_lt n (bar_count (layout f.image))) (has_bar f.probe n) (lt-ltb n (bar_count (layout f.image)) inside) there))
      ]

  module _ (good : are_bad pools ≡ false) where
    -- ---- classes behind a bridge are those of planning

    class_agrees : (f b : Function) (p : Part) → Contains t f → is_item f p ≡ true → LeadsTo t b f.slot.bus → class_in q t f p ≡ class_of t pools f p
    class_agrees f b (Bar n) listed item leads =
        let io = is_io (bar_at f.probe n) in
        let prefetchable = is_prefetchable (bar_at f.probe n) in
        let served = is_served t pools f n in
        let new = not (is_empty q.lists.prefetch) && is_served t (upper_pools q.lists.prefetch) f n in
        let off : (q.anew || is_root q.roots f.slot.bus) ≡ false = ap (λ a. a || is_root q.roots f.slot.bus) has.kept ∙ subst (λ k. is_root q.roots k ≡ false) leads.2 (off_roots q t system sound.nested b leads.0 leads.1) in
        ap (λ a. by_tests io prefetchable (by_windows a (is_in_memory t f n) (is_in_prefetch t f n) new)) off
        ∙ classes_agree io prefetchable served (is_in_memory t f n) (is_in_prefetch t f n) new
        (λ memory pref is.
        let class : class_of t pools f (Bar n) ≡ PrefetchWindow = (λ i. if memory i then IoWindow else if pref i && is i then PrefetchWindow else MemoryWindow) in
        (not_in_memory q.roots t pools system sound laid f b listed leads good n item class, in_prefetch q.roots t pools system sound laid f b listed leads good n item class))
        (λ memory pref none.
        in_memory q.roots t pools system sound laid f b listed leads good n item (λ i. if memory i then IoWindow else if pref i && none i then PrefetchWindow else MemoryWindow))
    class_agrees f b Rom listed item leads = refl
    class_agrees f b (Window c) listed item leads = refl

    -- ---- in its place

    in_place : (r : FunctionPart) → Contains (system_parts q t) r → is_in_place q t (looked_at q t) r ≡ true
    in_place r in_r =
        let is = has_place r in_r in
        let f = r.function in
        let p = r.part in
        let c = class_of t pools f p in
        let test = looked_at q t in
        let lists = is_in_lists q f.slot.bus (addresses r) (part_space r) in
        elim (root_or_led q.roots t system sound.nested f is.listed) [
          | inl root ↦
              ap (λ b. cond b lists (is_in_window test (class_in q t f p) (addresses r) (bridge_over t f.slot.bus))) ((root_means q.roots f.slot.bus).1 root)
              ∙ subst (λ sp. is_in_lists q f.slot.bus (addresses r) sp ≡ true) (sym (space_by_class q.roots t pools system sound laid f p))
              (listed_in q f.slot.bus (addresses r) c (listed_inside q f.slot.bus (addresses r) (pool_of pools c) c (laid.pool f p is.listed is.item root) (has.listed f.slot.bus c root)))
          | inr (b, leader) ↦
              let leads : LeadsTo t b f.slot.bus = (leader.listed, leader.bridge, leader.leads) in
              let off : is_root q.roots f.slot.bus ≡ false = subst (λ n. is_root q.roots n ≡ false) leader.leads (off_roots q t system sound.nested b leader.listed leader.bridge) in
              let through = laid.window f b p is.listed is.item leads in
              ap (λ x. cond x lists (is_in_window test (class_in q t f p) (addresses r) (bridge_over t f.slot.bus))) off
              ∙ ap (is_in_window test (class_in q t f p) (addresses r)) (over q.roots t pools system sound laid f b is.listed leads)
              ∙ ap (λ k. lies_within (addresses r) (addresses (window_part k b)) && test (window_part k b)) (class_agrees f b p is.listed is.item leads)
              ∙ and_from (lies_within (addresses r) (addresses (window_part c b))) (test (window_part c b)) (within_from (addresses r) (addresses (window_part c b)) through.1) through.0
        ]

    -- ---- apart

    two_apart : (r u : FunctionPart) → Contains (system_parts q t) r → Contains (system_parts q t) u → are_beside q r u ≡ true → (rank r ≡ rank u → ⊥) → ranges_are_apart (addresses r) (addresses u) ≡ true
    two_apart r u in_r in_u beside differ =
        let is_r = has_place r in_r in
        let is_u = has_place u in_u in
        let parts = and_parts (are_siblings q.roots r.function.slot.bus u.function.slot.bus) (are_same_space (part_space r) (part_space u)) beside in
        apart_from (addresses r) (addresses u)
        (beside_apart q.roots t pools system sound laid good r.function u.function r.part u.part is_r.listed is_u.listed is_r.item is_u.item
        (one_space (part_space r) (part_space u) parts.1) (beside_of q.roots r.function u.function parts.0) (two_of r u differ))

    -- The law: each part stands.
    pub all_stand : q.told.ranges ≡ [] → (r : FunctionPart) → Contains (system_parts q t) r → stands q t r ≡ true
    all_stand untold r listed = all_in_place q t system sound.nested has.kept (λ u in_u. none_kept_off q untold t u) in_place two_apart r listed
