-- A told range that stands is on a root, or each window of its class above it holds it and stands.
use Rattle.std.proofs.Common.{◌≡◌, ◌&&◌, ◌||◌, ℕ, zero, suc, ◌<◌, inl, inr, Bool, true, false, List, [], ◌∷◌, map, cond, not, arith, refl, sym, ◌∙◌, ap, subst}
use Rattle.std.specs.List.{Contains, list_any, filter}
use Rattle.std.proofs.lemmas.Bool.{and_parts, both_ways, cases_eq, false_from_ne_true, not_from_true, or_from}
use Rattle.pci_spec.specs.Decoded.{Range}
use Rattle.pci_spec.specs.Window.{WindowKind, IoWindow, MemoryWindow, PrefetchWindow, has_window, is_closed}
use Rattle.pci_spec.specs.System.{System, Function, IsSystem, Space, Io, Memory, is_bridge, is_space_on, window_space}
use Rattle.pci_spec.specs.Bus.{is_root, secondary, is_behind, IsNested, LeadsTo}
use Rattle.pci_spec.proofs.BusRanges.{root_means}
use Rattle.plan_spec.specs.Plan.{bridges_above}
use Rattle.plan_spec.proofs.Planning.AboveBuses.{above_to, above_from, root_or_led}
use Rattle.plan_spec.proofs.Planning.Behind.{all_gives, behind_range, bridge_between}
use Rattle.plan_spec.proofs.Planning.Safe.{order_of}
use Rattle.judge_spec.specs.ToldRegion.{ToldRegion}
use Rattle.settle_spec.specs.Lines.{line_bus, line_range, is_always_line}
use Rattle.settle_spec.specs.Lists.{RootRange, Request, is_had_by}
use Rattle.settle_spec.specs.Parts.{FunctionPart, system_parts, addresses, is_empty, lies_within, class_in, has_left, holds_range, bridge_over}
use Rattle.settle_spec.specs.Stands.{is_in_lists, window_part, stands, range_class, prefetchable_range_class, class_in_space, range_stands}
use Rattle.settle_spec.specs.ToldLaws.{IsInStandingWindow}
use Rattle.settle_spec.proofs.BridgeOver.{over_leads}
use Rattle.settle_spec.proofs.Nested.{at_secondary, is_no_root, one_bridge}
use Rattle.settle_spec.proofs.Reaching.{lies_in_trans, within_gives, within_from}
use Rattle.settle_spec.proofs.ToldStanding.{ranges_stand_in_place}
use Rattle.settle_laws.proofs.Apart.{in_root_lists, in_window_over}
use Rattle.settle_laws.proofs.Standing.{part_of, stands_by_itself, window_listed}
use Rattle.settle_laws.proofs.Held.{left_behind}
use Rattle.settle_laws.proofs.NonePasses.{none_by}
use Rattle.settle_laws.proofs.PartClasses.{space_of_class}
use Rattle.settle_laws.proofs.SettledSound.{no_prefetch}
use Rattle.settle_laws.proofs.StandingAbove.{around_above}

-- the class of a told range is of its space
pub range_space : (q : Request) (s : System) (x : ToldRegion) → window_space (range_class q s x) ≡ x.told.space
range_space q s x = by x.told.space x.told.prefetchable
  where
    by : (space : Space) (prefetchable : Bool) → window_space (class_in_space space (cond prefetchable (prefetchable_range_class q s x) MemoryWindow)) ≡ space
    by Io prefetchable = refl
    by Memory false = refl
    by Memory true = either (is_root q.roots (line_bus x) || holds_range MemoryWindow (line_range x) (bridge_over s (line_bus x)))
      where
        either : (t : Bool) → window_space (cond t MemoryWindow PrefetchWindow) ≡ Memory
        either true = refl
        either false = refl

-- it is of the prefetchable class only where it is prefetchable
pub range_prefetch : (q : Request) (s : System) (x : ToldRegion) → range_class q s x ≡ PrefetchWindow → x.told.prefetchable ≡ true
range_prefetch q s x e = by x.told.space x.told.prefetchable refl e
  where
    by : (space : Space) (prefetchable : Bool) → x.told.prefetchable ≡ prefetchable → class_in_space space (cond prefetchable (prefetchable_range_class q s x) MemoryWindow) ≡ PrefetchWindow → x.told.prefetchable ≡ true
    by Io prefetchable is e = no_prefetch IoWindow refl e
    by Memory true is e = is
    by Memory false is e = no_prefetch MemoryWindow refl e

module _ (q : Request) (s : System) (system : IsSystem s) (nested : IsNested q.roots s) where
  -- a window that stands around a range
  pub record IsAroundRange (r : Range) (c : WindowKind) (b : Function) : Type 0 where
    pub listed : Contains (system_parts q s) (window_part c b)
    pub stands : stands q s (window_part c b) ≡ true
    pub within : lies_within r (addresses (window_part c b)) ≡ true

  module _ (x : ToldRegion) (stand : range_stands q s x ≡ true) where
    over_by : (w : IsInStandingWindow q s x) (b : Function) → Contains (bridges_above s (line_bus x)) b → IsAroundRange (line_range x) (range_class q s x) b
    over_by w b above =
        let c = range_class q s x in
        let d = w.b in
        let leads = over_leads s (line_bus x) d w.over in
        let is = above_to s (line_bus x) b above in
        let own : IsAroundRange (line_range x) c d = record {
          listed = window_listed q s c d leads.0 ((stands_by_itself q s nested).only (window_part c d) leads.0 w.stands);
          stands = w.stands;
          within = w.holds;
        } in
        elim (cases_eq (secondary b) (secondary d)) [
          | inl same ↦ subst (IsAroundRange (line_range x) c) (sym (one_bridge q.roots s system nested b d is.listed leads.0 is.bridge leads.1 same)) own
          | inr differ ↦
              let behind = subst (λ bus. is_behind b bus ≡ true) (sym leads.2) is.behind in
              let low = (behind_range b (secondary d) behind).0 in
              let between = bridge_between q.roots s system nested b d is.listed leads.0 is.bridge leads.1 behind (omega (arith, low, differ)) in
              let over = around_above q s system nested (window_part c d) own.listed own.stands b (above_from s d.slot.bus b record { listed = is.listed; bridge = is.bridge; behind = between }) in
              record {
                listed = over.listed;
                stands = over.stands;
                within = within_from (line_range x) (addresses (window_part c b))
                    (lies_in_trans (line_range x) (addresses (window_part c d)) (addresses (window_part c b)) (within_gives (line_range x) (addresses (window_part c d)) own.within) (within_gives (addresses (window_part c d)) (addresses (window_part c b)) over.within));
              }
        ]

    -- the windows of its class above it
    pub range_above : (b : Function) → Contains (bridges_above s (line_bus x)) b → IsAroundRange (line_range x) (range_class q s x) b
    range_above b above = elim (ranges_stand_in_place q s x stand).in_place [
      | inl root ↦ (let is = above_to s (line_bus x) b above in absurd (is_no_root q.roots s system nested b (line_bus x) is.listed is.bridge is.behind root))
      | inr w ↦ over_by w b above
    ]

    -- and the bridges, where it is marked `always`
    pub always_on : is_always_line x ≡ true → (b : Function) → Contains (bridges_above s (line_bus x)) b → is_space_on b x.told.space ≡ true
    always_on always b above = elim (ranges_stand_in_place q s x stand).in_place [
      | inl root ↦ (let is = above_to s (line_bus x) b above in absurd (is_no_root q.roots s system nested b (line_bus x) is.listed is.bridge is.behind root))
      | inr w ↦ all_gives (λ b. is_space_on b x.told.space) (bridges_above s (line_bus x)) b (w.on always) above
    ]

  -- ---- I/O

  -- a part of class I/O that stands is in a list of I/O
  some_io : (n : ℕ) (r : FunctionPart) → r.function.slot.bus < n → Contains (system_parts q s) r → stands q s r ≡ true → class_in q s r.function r.part ≡ IoWindow → is_empty q.lists.io ≡ false
  some_io zero r less listed stand class = absurd (let no : ⊥ = omega (arith, less) in no)
  some_io (suc n) r less listed stand class = elim (root_or_led q.roots s system nested r.function in_f) [
    | inl root ↦
        let on = in_root_lists q s nested r listed stand ((root_means q.roots r.function.slot.bus).1 root) in
        by q.lists.io refl (subst (λ sp. is_in_lists q r.function.slot.bus (addresses r) sp ≡ true) (sym (space_of_class q s r.function r.part) ∙ ap window_space class) on)
    | inr (d, leader) ↦
        let leads : LeadsTo s d r.function.slot.bus = (leader.listed, leader.bridge, leader.leads) in
        let off = false_from_ne_true (is_root q.roots r.function.slot.bus) (is_no_root q.roots s system nested d r.function.slot.bus leads.0 leads.1 (at_secondary q.roots s system nested d r.function.slot.bus leads.0 leads.1 leads.2)) in
        let over = in_window_over q s nested r listed stand d system off leads in
        let up = order_of q.roots s nested d leads.0 leads.1 in
        let to = leads.2 in
        let here = subst (λ c. stands q s (window_part c d) ≡ true) class over.1 in
        some_io n (window_part IoWindow d) (omega (arith, less, up, to)) (window_listed q s IoWindow d leads.0 ((stands_by_itself q s nested).only (window_part IoWindow d) leads.0 here)) here refl
  ]
    where
      in_f : Contains s r.function
      in_f = (part_of q s r listed).listed

      by : (list : List RootRange) → q.lists.io ≡ list → is_in_lists q r.function.slot.bus (addresses r) Io ≡ true → is_empty q.lists.io ≡ false
      by [] is on = absurd (both_ways (is_in_lists q r.function.slot.bus (addresses r) Io) (ap (λ list. list_any (lies_within (addresses r)) (map (λ (x : RootRange). x.range) (filter (λ x. is_had_by x.root r.function.slot.bus) list))) is) on)
      by (x ∷ list) is on = ap is_empty is

  -- nothing leaves an I/O BAR of a bridge above a told range of I/O that stands
  pub range_unleft : (f : Function) (x : ToldRegion) → range_stands q s x ≡ true → x.told.space ≡ Io → line_bus x ≡ f.slot.bus → (b : Function) → Contains (bridges_above s f.slot.bus) b → has_left q s b ≡ false
  range_unleft f x stand io at b above = false_from_ne_true (has_left q s b) (λ left. both_ways (is_empty q.lists.io || list_any no_window (bridges_above s f.slot.bus)) none (left_behind q s system nested f b above left))
    where
      no_window : Function → Bool
      no_window d = not (has_window IoWindow d.probe)

      around : (d : Function) → Contains (bridges_above s f.slot.bus) d → IsAroundRange (line_range x) IoWindow d
      around d up = subst (λ c. IsAroundRange (line_range x) c d) (ap (λ sp. class_in_space sp (cond x.told.prefetchable (prefetchable_range_class q s x) MemoryWindow)) io) (range_above x stand d (subst (λ n. Contains (bridges_above s n) d) (sym at) up))

      there : (d : Function) → Contains (bridges_above s f.slot.bus) d → has_window IoWindow d.probe ≡ true
      there d up =
          let is = (part_of q s (window_part IoWindow d) (around d up).listed).is in
          (and_parts (is_bridge d) (has_window IoWindow d.probe) (and_parts (is_bridge d && has_window IoWindow d.probe) (not (is_closed IoWindow d.image)) is).0).1

      none : (is_empty q.lists.io || list_any no_window (bridges_above s f.slot.bus)) ≡ false
      none =
          let own = around b above in
          or_from (is_empty q.lists.io) (list_any no_window (bridges_above s f.slot.bus))
          (some_io (suc b.slot.bus) (window_part IoWindow b) (omega arith) own.listed own.stands refl)
          (none_by no_window (bridges_above s f.slot.bus) (λ d up. not_from_true (has_window IoWindow d.probe) (there d up)))
