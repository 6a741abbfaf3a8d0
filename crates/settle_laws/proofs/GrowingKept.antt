-- What stays where windows grow stands, apart from what else stays on its bus, and in its lists or the window over it.
use Rattle.std.proofs.Common.{◌≡◌, ◌≢◌, ◌≤◌, ℕ, inl, inr, Option, None, Some, Bool, true, false, ◌&&◌, ◌||◌, arith, ap, sym, subst, ◌∙◌, refl}
use Rattle.std.specs.Bool.{◌==◌, if◌then◌else◌}
use Rattle.std.specs.List.{Contains, list_all, find}
use Rattle.std.specs.Option.{is_some}
use Rattle.std.proofs.lemmas.Bool.{cases_Bool, false≢true, and_parts, or_cases, or_left, or_right, eq-eqb}
use Rattle.std.proofs.lemmas.List.Elements.{Contains-append_cases}
use Rattle.pci_spec.specs.Window.{WindowKind, IoWindow, MemoryWindow, PrefetchWindow}
use Rattle.pci_spec.specs.Decoded.{Range}
use Rattle.pci_spec.specs.System.{System, Function, IsSystem, Part, Bar, Rom, Window, window_space}
use Rattle.pci_spec.specs.Bus.{is_root, secondary, IsNested, LeadsTo}
use Rattle.plan_spec.specs.Plan.{bridges_above}
use Rattle.plan_spec.proofs.Planning.AboveBuses.{all_above}
use Rattle.plan_spec.proofs.Planning.Behind.{any_from, any_gives}
use Rattle.settle_spec.specs.FirstPlace.{ranges_are_apart}
use Rattle.settle_spec.specs.Lists.{Request, class_ranges}
use Rattle.settle_spec.specs.Parts.{FunctionPart, system_parts, addresses, bridge_over, class_in, lies_within}
use Rattle.settle_spec.specs.Stands.{is_fixed_part, rank, part_space, are_beside, is_listed, is_in_lists, window_part, stands}
use Rattle.settle_spec.specs.Items.{highest_in, has_room_behind}
use Rattle.settle_spec.specs.Reach.{root_window_ranges, range_over, room_around, reach_in, reach_if, reach_within, reach}
use Rattle.settle_spec.specs.Growth.{window_comes_to, part_comes_to, is_clear, there, comes_to, takes_growth, has_grown}
use Rattle.settle_spec.specs.Kept.{is_kept, stays_growing, range_or, range_growing, growing}
use Rattle.settle_spec.proofs.BridgeOver.{found}
use Rattle.settle_spec.proofs.Grown.{growth_holds_all, part_holds}
use Rattle.settle_spec.proofs.Reaching.{lies_in_trans, within_gives, within_from, ends_apart, apart_ends, reach_is_around, reach_in_low, reach_step}
use Rattle.settle_laws.specs.Reach.{WindowsAreLow, IsStandingWindow}
use Rattle.settle_laws.specs.There.{ItemsAreAligned}
use Rattle.settle_laws.specs.KeptApart.{IsKeptApart}
use Rattle.settle_laws.proofs.Apart.{in_root_lists, in_window_over}
use Rattle.settle_laws.proofs.Reach.{room_holds, reachable, apart_beside, in_system}
use Rattle.settle_laws.proofs.There.{stands_where_holds, comes_to_holds, there_is_in_reach}
use Rattle.settle_laws.proofs.ThereApart.{swapped, inner_apart, there_is_apart}
use Rattle.settle_laws.proofs.ThereByBus.{there_by_bus}

within_trans : (a b c : Range) → lies_within a b ≡ true → lies_within b c ≡ true → lies_within a c ≡ true
within_trans a b c inner outer = within_from a c (lies_in_trans a b c (within_gives a b inner) (within_gives b c outer))

listed_within : (q : Request) (d : WindowKind) (bus : ℕ) (x y : Range) → lies_within x y ≡ true → is_listed q bus y d ≡ true → is_listed q bus x d ≡ true
listed_within q d bus x y within has =
    let at = any_gives (lies_within y) (class_ranges q d bus) has in
    any_from (lies_within x) (class_ranges q d bus) at.x at.listed (within_trans x y at.x within at.is)

either_within : (q : Request) (bus : ℕ) (x y : Range) → lies_within x y ≡ true → (is_listed q bus y MemoryWindow || is_listed q bus y PrefetchWindow) ≡ true → (is_listed q bus x MemoryWindow || is_listed q bus x PrefetchWindow) ≡ true
either_within q bus x y within has = elim (or_cases (is_listed q bus y MemoryWindow) (is_listed q bus y PrefetchWindow) has) [
  | inl own ↦ or_left (is_listed q bus x MemoryWindow) (is_listed q bus x PrefetchWindow) (listed_within q MemoryWindow bus x y within own)
  | inr other ↦ or_right (is_listed q bus x MemoryWindow) (is_listed q bus x PrefetchWindow) (listed_within q PrefetchWindow bus x y within other)
]

in_lists_within : (q : Request) (c : WindowKind) (bus : ℕ) (x y : Range) → lies_within x y ≡ true → is_in_lists q bus y (window_space c) ≡ true → is_in_lists q bus x (window_space c) ≡ true
in_lists_within q IoWindow bus x y within has = listed_within q IoWindow bus x y within has
in_lists_within q MemoryWindow bus x y within has = either_within q bus x y within has
in_lists_within q PrefetchWindow bus x y within has = either_within q bus x y within has

or_else_right : (a b : Bool) → (a || b) ≡ true → a ≡ false → b ≡ true
or_else_right true b is off = absurd (false≢true (sym off))
or_else_right false b is off = is

module _ (q : Request) (s : System) where
  -- ---- what takes stands

  comes_stands : (f : Function) (p : Part) (x : Range) → part_comes_to q s (there q s) f p ≡ Some x → stands q s (record { function = f; part = p }) ≡ true
  comes_stands f (Bar n) x is = absurd (false≢true (ap is_some is))
  comes_stands f Rom x is = absurd (false≢true (ap is_some is))
  comes_stands f (Window c) x is = by (stands q s (window_part c f)) refl is
    where
      by : (b : Bool) → stands q s (window_part c f) ≡ b → (if b then window_comes_to q s (there q s) c f else None) ≡ Some x → stands q s (window_part c f) ≡ true
      by true stand e = stand
      by false stand e = absurd (false≢true (ap is_some e))

  -- a window takes with what it comes to
  pub record Takes (r : FunctionPart) : Type 0 where
    pub range : Range
    pub comes : comes_to q s r ≡ Some range

  pub taking : (r : FunctionPart) → takes_growth q s r ≡ true → Takes r
  taking r is = by (comes_to q s r) refl is
    where
      by : (o : Option Range) → comes_to q s r ≡ o → is_clear q s (there q s) r o ≡ true → Takes r
      by None comes clear = absurd (false≢true clear)
      by (Some x) comes clear = record { range = x; comes = comes }

  pub takes_stands : (r : FunctionPart) → takes_growth q s r ≡ true → stands q s r ≡ true
  takes_stands r is = let to = taking r is in comes_stands r.function r.part to.range to.comes

  pub grown_takes : (r : FunctionPart) → has_grown q s r ≡ true → takes_growth q s r ≡ true
  grown_takes r is = (and_parts (takes_growth q s r) _ is).0

  pub grown_range : (r : FunctionPart) (x : Range) → has_grown q s r ≡ true → comes_to q s r ≡ Some x → range_growing q s r ≡ x
  grown_range r x grown comes = ap (λ b. if b then range_or (comes_to q s r) (addresses r) else addresses r) grown ∙ ap (λ o. range_or o (addresses r)) comes

  pub same_range : (r : FunctionPart) → has_grown q s r ≡ false → range_growing q s r ≡ addresses r
  same_range r not_grown = ap (λ b. if b then range_or (comes_to q s r) (addresses r) else addresses r) not_grown

  pub stays_kept : (r : FunctionPart) → stays_growing q s r ≡ true → is_kept q s r ≡ true
  stays_kept r is = (and_parts (is_kept q s r) _ is).0

  pub kept_stands : (r : FunctionPart) → is_kept q s r ≡ true → stands q s r ≡ true
  kept_stands r is = elim (cases_Bool (has_grown q s r)) [
    | inl grown ↦ takes_stands r (grown_takes r grown)
    | inr not_grown ↦ stands_where_holds q s r (or_else_right (has_grown q s r) (has_room_behind q s r) is not_grown)
  ]

  pub growing_stands : (r : FunctionPart) → stays_growing q s r ≡ true → stands q s r ≡ true
  growing_stands r is = kept_stands r (stays_kept r is)

  module _ (system : IsSystem s) (nested : IsNested q.roots s) where
    -- ---- by the window over

    pub over_first : (test : FunctionPart → Bool) (c : WindowKind) (b : Function) (bus : ℕ) → LeadsTo s b bus
        → list_all (λ d. test (window_part c d)) (bridges_above s bus) ≡ (test (window_part c b) && list_all (λ d. test (window_part c d)) (bridges_above s b.slot.bus))
    over_first test c b bus (listed, bridge, to) =
        ap (λ n. list_all above (bridges_above s n)) (sym to)
        ∙ all_above q.roots s system nested above b listed bridge
        ∙ and_swap (list_all above (bridges_above s b.slot.bus)) (above b)
      where
        above : Function → Bool
        above d = test (window_part c d)

        and_swap : (x y : Bool) → (x && y) ≡ (y && x)
        and_swap true true = refl
        and_swap true false = refl
        and_swap false true = refl
        and_swap false false = refl

    pub stays_by_over : (r : FunctionPart) (b : Function) → LeadsTo s b r.function.slot.bus → stays_growing q s r ≡ (is_kept q s r && stays_growing q s (window_part (class_in q s r.function r.part) b))
    stays_by_over r b leads = ap (λ x. is_kept q s r && x) (over_first (is_kept q s) (class_in q s r.function r.part) b r.function.slot.bus leads)

    pub grown_by_over : (r : FunctionPart) (b : Function) → LeadsTo s b r.function.slot.bus → has_grown q s r ≡ (takes_growth q s r && has_grown q s (window_part (class_in q s r.function r.part) b))
    grown_by_over r b leads = ap (λ x. takes_growth q s r && x) (over_first (takes_growth q s) (class_in q s r.function r.part) b r.function.slot.bus leads)

    -- ---- what is kept is there, with all that it has then

    pub record IsThereWith (r : FunctionPart) : Type 0 where
      pub range : Range
      pub is : there q s r ≡ Some range
      pub holds : lies_within (range_growing q s r) range ≡ true

    pub there_taking : (r : FunctionPart) → Contains (system_parts q s) r → takes_growth q s r ≡ true → there q s r ≡ comes_to q s r
    there_taking r listed taken = there_by_bus q s system nested r listed ∙ ap (λ b. if b then comes_to q s r else if has_room_behind q s r then Some (addresses r) else None) taken

    pub there_else : (r : FunctionPart) → Contains (system_parts q s) r → takes_growth q s r ≡ false → there q s r ≡ (if has_room_behind q s r then Some (addresses r) else None)
    there_else r listed off = there_by_bus q s system nested r listed ∙ ap (λ b. if b then comes_to q s r else if has_room_behind q s r then Some (addresses r) else None) off

    pub kept_is_there : (r : FunctionPart) → Contains (system_parts q s) r → is_kept q s r ≡ true → IsThereWith r
    kept_is_there r listed kept = elim (cases_Bool (takes_growth q s r)) [
      | inl taken ↦
          let to = taking r taken in
          let holds = part_holds q s r.function r.part to.range to.comes in
          record {
            range = to.range;
            is = there_taking r listed taken ∙ to.comes;
            holds = elim (cases_Bool (has_grown q s r)) [
              | inl grown ↦ subst (λ x. lies_within (range_growing q s r) x ≡ true) (grown_range r to.range grown to.comes) (itself (range_growing q s r))
              | inr off ↦ subst (λ x. lies_within x to.range ≡ true) (sym (same_range r off)) holds
            ];
          }
      | inr off ↦
          let not_grown : has_grown q s r ≡ false = ap (λ b. b && list_all (λ d. takes_growth q s (window_part (class_in q s r.function r.part) d)) (bridges_above s r.function.slot.bus)) off in
          let holds = or_else_right (has_grown q s r) (has_room_behind q s r) kept not_grown in
          record {
            range = addresses r;
            is = there_else r listed off ∙ ap (λ b. if b then Some (addresses r) else None) holds;
            holds = subst (λ x. lies_within x (addresses r) ≡ true) (sym (same_range r not_grown)) (itself (addresses r));
          }
    ]
      where
        itself : (x : Range) → lies_within x x ≡ true
        itself x = within_from x x (record { first = omega arith; last = omega arith })

    -- and what is there behind a window that grows is kept
    pub there_is_kept : (r : FunctionPart) (x : Range) → Contains (system_parts q s) r → there q s r ≡ Some x → (takes_growth q s r ≡ true → has_grown q s r ≡ true) → is_kept q s r ≡ true
    there_is_kept r x listed is grows = elim (cases_Bool (takes_growth q s r)) [
      | inl taken ↦ or_left (has_grown q s r) (has_room_behind q s r) (grows taken)
      | inr off ↦ or_right (has_grown q s r) (has_room_behind q s r) (by (has_room_behind q s r) (sym (there_else r listed off) ∙ is))
    ]
      where
        by : (holds : Bool) → (if holds then Some (addresses r) else None) ≡ Some x → holds ≡ true
        by true e = refl
        by false e = absurd (false≢true (ap is_some e))

    -- ---- in the window over it

    pub record IsInOver (r w : FunctionPart) : Type 0 where
      pub stays : stays_growing q s w ≡ true
      pub within : lies_within (range_growing q s r) (range_growing q s w) ≡ true

    pub growing_in_window : (r : FunctionPart) (b : Function) → Contains (system_parts q s) r → stays_growing q s r ≡ true → is_root q.roots r.function.slot.bus ≡ false → LeadsTo s b r.function.slot.bus
        → IsInOver r (window_part (class_in q s r.function r.part) b)
    growing_in_window r b listed is off leads =
        let w = window_part (class_in q s r.function r.part) b in
        let both = and_parts (is_kept q s r) (stays_growing q s w) (sym (stays_by_over r b leads) ∙ is) in
        record {
          stays = both.1;
          within = elim (cases_Bool (has_grown q s r)) [
            | inl grown ↦
                let two = and_parts (takes_growth q s r) (has_grown q s w) (sym (grown_by_over r b leads) ∙ grown) in
                let to = taking r two.0 in
                let over = taking w (grown_takes w two.1) in
                let to_bus = leads.2 in
                let beside = or_left (secondary b == r.function.slot.bus) (is_root q.roots (secondary b) && is_root q.roots r.function.slot.bus) (eq-eqb (secondary b) r.function.slot.bus to_bus) in
                let holds = comes_to_holds q s (class_in q s r.function r.part) b over.range r to.range over.comes listed beside refl (there_taking r listed two.0 ∙ to.comes) in
                subst (λ x. lies_within x (range_growing q s w) ≡ true) (sym (grown_range r to.range grown to.comes))
                (subst (λ y. lies_within to.range y ≡ true) (sym (grown_range w over.range two.1 over.comes)) holds)
            | inr not_grown ↦
                let inside = (in_window_over q s nested r listed (growing_stands r is) b system off leads).0 in
                subst (λ x. lies_within x (range_growing q s w) ≡ true) (sym (same_range r not_grown))
                (within_trans (addresses r) (addresses w) (range_growing q s w) inside (growth_holds_all q s w))
          ];
        }

    module _ (low : WindowsAreLow q s) (aligned : ItemsAreAligned q s) where
      -- ---- apart

      pub growing_apart : (r t : FunctionPart) → Contains (system_parts q s) r → Contains (system_parts q s) t → stays_growing q s r ≡ true → stays_growing q s t ≡ true → are_beside q r t ≡ true → rank r ≢ rank t
          → ranges_are_apart (range_growing q s r) (range_growing q s t) ≡ true
      growing_apart r t in_r in_t is_r is_t beside differ =
          let x = kept_is_there r in_r (stays_kept r is_r) in
          let y = kept_is_there t in_t (stays_kept t is_t) in
          let own = range_growing q s r in
          let other = range_growing q s t in
          let apart = ends_apart x.range y.range (there_is_apart q s system nested low aligned r t x.range y.range in_r in_t beside differ x.is y.is) in
          let one = inner_apart own x.range y.range (within_gives own x.range x.holds) apart in
          apart_ends own other
          (swapped other own (inner_apart other y.range own (within_gives other y.range y.holds) (swapped own y.range one)))

      -- ---- in the lists of a root

      listed_for : (c : WindowKind) (bus : ℕ) (x room : Range) → Contains (root_window_ranges q c bus) room → lies_within x room ≡ true → is_in_lists q bus x (window_space c) ≡ true
      listed_for c bus x room has within = by c has
        where
          in_class : (d : WindowKind) → Contains (class_ranges q d bus) room → is_listed q bus x d ≡ true
          in_class d here = any_from (lies_within x) (class_ranges q d bus) room here within

          by : (c : WindowKind) → Contains (root_window_ranges q c bus) room → is_in_lists q bus x (window_space c) ≡ true
          by IoWindow here = in_class IoWindow here
          by MemoryWindow here = elim (Contains-append_cases (class_ranges q MemoryWindow bus) (class_ranges q PrefetchWindow bus) room here) [
            | inl own ↦ or_left (is_listed q bus x MemoryWindow) (is_listed q bus x PrefetchWindow) (in_class MemoryWindow own)
            | inr other ↦ or_right (is_listed q bus x MemoryWindow) (is_listed q bus x PrefetchWindow) (in_class PrefetchWindow other)
          ]
          by PrefetchWindow here = elim (Contains-append_cases (class_ranges q PrefetchWindow bus) (class_ranges q MemoryWindow bus) room here) [
            | inl own ↦ or_right (is_listed q bus x MemoryWindow) (is_listed q bus x PrefetchWindow) (in_class PrefetchWindow own)
            | inr other ↦ or_left (is_listed q bus x MemoryWindow) (is_listed q bus x PrefetchWindow) (in_class MemoryWindow other)
          ]

      reach_listed : (c : WindowKind) (b : Function) → IsStandingWindow q s c b → is_root q.roots b.slot.bus ≡ true → is_in_lists q b.slot.bus (reach q s c b) (window_space c) ≡ true
      reach_listed c b is root =
          subst (λ x. is_in_lists q b.slot.bus x (window_space c) ≡ true) (sym (reach_step q s c b)) (by_room (room_around q s c (reach_within q s c 255) b) refl)
        where
          w : FunctionPart
          w = window_part c b

          own : is_in_lists q b.slot.bus (addresses w) (window_space c) ≡ true
          own = in_root_lists q s nested w is.part is.stands root

          by_room : (o : Option Range) → room_around q s c (reach_within q s c 255) b ≡ o → is_in_lists q b.slot.bus (reach_if q s c b o) (window_space c) ≡ true
          by_room None e = own
          by_room (Some room) e = by (is_fixed_part q w)
            where
              here : find (lies_within (addresses w)) (root_window_ranges q c b.slot.bus) ≡ Some room
              here = sym (ap (λ t. if t then find (lies_within (addresses w)) (root_window_ranges q c b.slot.bus) else range_over (reach_within q s c 255) (bridge_over s b.slot.bus)) root) ∙ e

              by : (fixed : Bool) → is_in_lists q b.slot.bus (if fixed then addresses w else reach_in q s c b room) (window_space c) ≡ true
              by true = own
              by false =
                  listed_for c b.slot.bus (reach_in q s c b room) room (found (lies_within (addresses w)) (root_window_ranges q c b.slot.bus) room here).0
                  (reach_is_around q s c b room (room_holds q s c nested system (reach_within q s c 255) (reachable q s c nested system low 255) b is room e) (low c b (in_system q s c nested system low b is) is.stands) (apart_beside q s c nested b is)).1

      in_reach_listed : (f : Function) (p : Part) (x : Range) → Contains (system_parts q s) (record { function = f; part = p }) → is_root q.roots f.slot.bus ≡ true → comes_to q s (record { function = f; part = p }) ≡ Some x
          → there q s (record { function = f; part = p }) ≡ Some x → is_in_lists q f.slot.bus x (part_space (record { function = f; part = p })) ≡ true
      in_reach_listed f (Bar n) x listed root comes is = absurd (false≢true (ap is_some comes))
      in_reach_listed f Rom x listed root comes is = absurd (false≢true (ap is_some comes))
      in_reach_listed f (Window c) x listed root comes is =
          let at = there_is_in_reach q s system nested low aligned (window_part c f) x listed is in
          in_lists_within q c f.slot.bus x (reach q s c f) at.within (reach_listed c f (record { part = listed; stands = at.stands }) root)

      pub growing_in_lists : (r : FunctionPart) → Contains (system_parts q s) r → stays_growing q s r ≡ true → is_root q.roots r.function.slot.bus ≡ true → is_in_lists q r.function.slot.bus (range_growing q s r) (part_space r) ≡ true
      growing_in_lists r listed is root = elim (cases_Bool (has_grown q s r)) [
        | inl grown ↦
            let taken = grown_takes r grown in
            let to = taking r taken in
            subst (λ x. is_in_lists q r.function.slot.bus x (part_space r) ≡ true) (sym (grown_range r to.range grown to.comes))
            (in_reach_listed r.function r.part to.range listed root to.comes (there_taking r listed taken ∙ to.comes))
        | inr not_grown ↦
            subst (λ x. is_in_lists q r.function.slot.bus x (part_space r) ≡ true) (sym (same_range r not_grown))
            (in_root_lists q s nested r listed (growing_stands r is) root)
      ]

      -- ---- no higher than a window may be

      reach_low : (c : WindowKind) (b : Function) → IsStandingWindow q s c b → (reach q s c b).last ≤ highest_in c b.probe
      reach_low c b is = subst (λ (x : Range). x.last ≤ highest_in c b.probe) (sym (reach_step q s c b)) (by_room (room_around q s c (reach_within q s c 255) b))
        where
          w : FunctionPart
          w = window_part c b

          own : (addresses (window_part c b)).last ≤ highest_in c b.probe
          own = low c b (in_system q s c nested system low b is) is.stands

          by_room : (o : Option Range) → (reach_if q s c b o).last ≤ highest_in c b.probe
          by_room None = own
          by_room (Some room) = by (is_fixed_part q w)
            where
              by : (fixed : Bool) → (if fixed then addresses w else reach_in q s c b room).last ≤ highest_in c b.probe
              by true = own
              by false = reach_in_low q s c b room

      pub growing_low : (c : WindowKind) (b : Function) → Contains (system_parts q s) (window_part c b) → stays_growing q s (window_part c b) ≡ true → (range_growing q s (window_part c b)).last ≤ highest_in c b.probe
      growing_low c b listed is =
          let w = window_part c b in
          let stand : IsStandingWindow q s c b = record { part = listed; stands = growing_stands w is } in
          elim (cases_Bool (has_grown q s w)) [
            | inl grown ↦
                let taken = grown_takes w grown in
                let to = taking w taken in
                let at = there_is_in_reach q s system nested low aligned w to.range listed (there_taking w listed taken ∙ to.comes) in
                let in_reach = (within_gives to.range (reach q s c b) at.within).last in
                let most = reach_low c b stand in
                subst (λ (x : Range). x.last ≤ highest_in c b.probe) (sym (grown_range w to.range grown to.comes)) (omega (arith, in_reach, most))
            | inr not_grown ↦
                subst (λ (x : Range). x.last ≤ highest_in c b.probe) (sym (same_range w not_grown)) (low c b (in_system q s c nested system low b stand) stand.stands)
          ]

      pub growing_kept : IsKeptApart q s (growing q s)
      growing_kept = record {
        stands = growing_stands;
        apart = growing_apart;
        lists = growing_in_lists;
        windows = λ r b listed is off leads. let over = growing_in_window r b listed is off leads in (over.within, over.stays);
      }
