-- Where all is placed anew in the pools of planning, classes are those of planning, and each item may lie as high as its pool does.
use Rattle.std.proofs.Common.{◌≡◌, ◌&&◌, ℕ, zero, suc, ◌+◌, ◌≤◌, max, List, ◌∷◌, map, Bool, true, false, cond, inl, inr, arith, refl, sym, ◌∙◌, ap, subst}
use Rattle.std.specs.Bool.{nat_le, if◌then◌else◌}
use Rattle.std.specs.List.{Contains, list_all}
use Rattle.std.proofs.lemmas.Bool.{and_parts, and_from, both_ways, cases_Bool}
use Rattle.pci_spec.specs.Bar.{bar_at, is_io, is_wide, is_prefetchable}
use Rattle.pci_spec.specs.Window.{WindowKind, IoWindow, MemoryWindow, PrefetchWindow, has_window, is_wide_window}
use Rattle.pci_spec.specs.System.{System, Function, IsSystem, Part, Bar, Rom, Window, is_bridge, is_window}
use Rattle.pci_spec.specs.Bus.{is_behind, are_siblings, secondary, IsNested}
use Rattle.pci_spec.proofs.Members.{in_filter_from, in_map_to, IsMade}
use Rattle.plan_spec.specs.Plan.{Pools, class_of, same_class, bridges_above, is_served}
use Rattle.plan_spec.proofs.Planning.Behind.{all_gives, listed_plain}
use Rattle.plan_spec.proofs.Planning.NeededWindows.{served_by_class}
use Rattle.plan_spec.proofs.Planning.Safe.{slots_of, order_of}
use Rattle.settle_spec.specs.FirstPlace.{Extent, least_number}
use Rattle.settle_spec.specs.Parts.{class_in, prefetchable_class}
use Rattle.settle_spec.specs.Lists.{Request}
use Rattle.settle_spec.specs.Spares.{with_spare}
use Rattle.settle_spec.specs.Items.{PlacingItem, highest_of, highest_in, has_of, bus_items, nothing, spare_of, new_window}
use Rattle.settle_spec.proofs.Classes.{class_planned}
use Rattle.settle_spec.proofs.FirstSpot.{least_from}
use Rattle.settle_spec.proofs.Nested.{on_it}
use Rattle.settle_spec.proofs.NewWindows.{window_is_around}
use Rattle.settle_laws.specs.PlanLaws.{anew_in}
use Rattle.settle_laws.proofs.BarReach.{highest_by, io_high, memory_high}
use Rattle.settle_laws.proofs.ItemForms.{highest_or, spare_highest, with_spare_cases, extent_by, IsPlaceable, IsOwnPart, IsNewWindow, IsItemOf, items_are}
use Rattle.settle_laws.proofs.PlannedSizes.{IsPlannedBehind, planned_behind}

-- pools that end at an address
abbrev ending_at : ℕ → Pools
ending_at last = record {
  io = record { first = 0; last = 0 };
  memory = record { first = 0; last = 0 };
  prefetch = record { first = 0; last = last };
}

class_by_end : (s : System) (pools : Pools) (f : Function) (p : Part) → class_of s (ending_at pools.prefetch.last) f p ≡ class_of s pools f p
class_by_end s pools f (Bar n) = refl
class_by_end s pools f Rom = refl
class_by_end s pools f (Window kind) = refl

pub classes_planned : (roots : List ℕ) (s : System) (pools : Pools) (f : Function) (p : Part) → class_in (anew_in roots pools) s f p ≡ class_of s pools f p
classes_planned roots s pools f p =
    let e : max 0 pools.prefetch.last ≡ pools.prefetch.last = omega arith in
    class_planned (anew_in roots pools) s f refl refl p ∙ ap (λ last. class_of s (ending_at last) f p) e ∙ class_by_end s pools f p

-- ---- where each BAR and ROM of a class, and each window that leads to one, may lie as high as an address, so may each item

module _ (q : Request) (s : System) (system : IsSystem s) (nested : IsNested q.roots s) (c : WindowKind) (low : ℕ)
    (own : (f : Function) (p : Part) → is_window p ≡ false → class_in q s f p ≡ c → low ≤ highest_of f p)
    (over : (b : Function) → Contains s b → is_bridge b ≡ true → has_of q s c b ≡ true → low ≤ highest_in c b.probe) where
  own_high : (f : Function) (p : Part) → is_window p ≡ false → class_in q s f p ≡ c → low ≤ (extent_by (new_window q s) f p).highest
  own_high f (Bar n) plain class = own f (Bar n) plain class
  own_high f Rom plain class = own f Rom plain class
  own_high f (Window kind) plain class = absurd (both_ways true plain refl)

  item_high : (bus : ℕ) (i : PlacingItem) → IsItemOf q s (new_window q s) c bus i
      → ((b : Function) → Contains s b → is_bridge b ≡ true → are_siblings q.roots bus b.slot.bus ≡ true → has_of q s c b ≡ true → low ≤ (new_window q s c b).highest)
      → low ≤ i.extent.highest
  item_high bus i is windows = subst (λ (j : PlacingItem). low ≤ j.extent.highest) is.is (by is.can)
    where
      by : IsPlaceable q s c is.f is.p → low ≤ (extent_by (new_window q s) is.f is.p).highest
      by (IsOwnPart plain part) = own_high is.f is.p plain is.class
      by (IsNewWindow window bridge has) = subst (λ p. low ≤ (extent_by (new_window q s) is.f p).highest) (sym window) (windows is.f is.listed bridge is.beside has)

  window_high : (b : Function) → Contains s b → is_bridge b ≡ true → has_of q s c b ≡ true
      → ((d : Function) → Contains s d → is_bridge d ≡ true → are_siblings q.roots (secondary b) d.slot.bus ≡ true → has_of q s c d ≡ true → low ≤ (new_window q s c d).highest)
      → low ≤ (new_window q s c b).highest
  window_high b listed bridge has inner =
      let items = bus_items q s c nothing (new_window q s c) (secondary b) in
      let own = map (λ (i : PlacingItem). i.extent) items in
      let extents = with_spare (spare_of q c b) own in
      let around : (new_window q s c b).highest ≡ least_number (highest_in c b.probe ∷ map (λ (e : Extent). e.highest) extents) = ap (λ (e : Extent). e.highest) (window_is_around q s c system nested b listed bridge) in
      let all = least_from (highest_in c b.probe) (map (λ (e : Extent). e.highest) extents) low (over b listed bridge has) (λ x in_x.
      let of : IsMade (λ (e : Extent). e.highest) extents x = in_map_to (λ (e : Extent). e.highest) extents x in_x in
      subst (λ n. low ≤ n) of.is (elim (with_spare_cases (spare_of q c b) own of.from of.has) [
        | inl here ↦
            let made : IsMade (λ (i : PlacingItem). i.extent) items of.from = in_map_to (λ (i : PlacingItem). i.extent) items of.from here in
            subst (λ (e : Extent). low ≤ e.highest) made.is (item_high (secondary b) made.from (items_are q s (new_window q s) c nothing (secondary b) made.from made.has) inner)
        | inr spare ↦
            let same = sym (spare_highest q c b) ∙ ap (highest_or (highest_in c b.probe)) spare in
            subst (λ n. low ≤ n) same (over b listed bridge has)
      ])) in
      omega (arith, around, all)

  high_within : (n : ℕ) (b : Function) → Contains s b → is_bridge b ≡ true → has_of q s c b ≡ true → 256 ≤ secondary b + n → low ≤ (new_window q s c b).highest
  high_within zero b listed bridge has far = window_high b listed bridge has (λ d in_d is_d beside has_d.
      let at = on_it q.roots s system nested b d.slot.bus listed bridge beside in
      let few = (slots_of s system d in_d).0 in
      absurd (let no : ⊥ = omega (arith, at, few, far) in no))
  high_within (suc n) b listed bridge has far = window_high b listed bridge has (λ d in_d is_d beside has_d.
      let at = on_it q.roots s system nested b d.slot.bus listed bridge beside in
      let up = order_of q.roots s nested d in_d is_d in
      high_within n d in_d is_d has_d (omega (arith, at, up, far)))

  pub items_high : (bus : ℕ) (i : PlacingItem) → IsItemOf q s (new_window q s) c bus i → low ≤ i.extent.highest
  items_high bus i is = item_high bus i is (λ b listed bridge beside has. high_within 256 b listed bridge has (omega arith))

-- ---- so they may lie as high as the pools of planning

module _ (q : Request) (s : System) (pools : Pools) (system : IsSystem s) (nested : IsNested q.roots s)
    (classes : (f : Function) (p : Part) → class_in q s f p ≡ class_of s pools f p) where
  -- an item of I/O as high as FFFFh
  any_high : (f : Function) (p : Part) → 0xffff ≤ highest_of f p
  any_high f (Bar n) = io_high (bar_at f.probe n)
  any_high f Rom = omega arith
  any_high f (Window kind) = omega arith

  io_window : (wide : Bool) → 0xffff ≤ (if wide then 0xffff_ffff else 0xffff)
  io_window true = omega arith
  io_window false = omega arith

  pub io_items : (bus : ℕ) (i : PlacingItem) → IsItemOf q s (new_window q s) IoWindow bus i → 0xffff ≤ i.extent.highest
  io_items = items_high q s system nested IoWindow 0xffff (λ f p plain class. any_high f p) (λ b listed bridge has. io_window (is_wide_window IoWindow b.probe))

  -- one of memory as high as 4 GB
  no_io : (f : Function) (n : ℕ) → (IoWindow ≡ class_in q s f (Bar n) → ⊥) → is_io (bar_at f.probe n) ≡ false
  no_io f n other = elim (cases_Bool (is_io (bar_at f.probe n))) [
    | inr memory ↦ memory
    | inl io ↦ absurd (other (sym (ap (λ t. if t then IoWindow else (if is_prefetchable (bar_at f.probe n) then prefetchable_class q s f n else MemoryWindow)) io)))
  ]

  plain_high : (f : Function) (p : Part) → (IoWindow ≡ class_in q s f p → ⊥) → 0xffff_ffff ≤ highest_of f p
  plain_high f (Bar n) other = memory_high (bar_at f.probe n) (no_io f n other)
  plain_high f Rom other = omega arith
  plain_high f (Window kind) other = omega arith

  memory_not_io : IoWindow ≡ MemoryWindow → ⊥
  memory_not_io e = cc

  prefetch_not_io : IoWindow ≡ PrefetchWindow → ⊥
  prefetch_not_io e = cc

  pub memory_items : (bus : ℕ) (i : PlacingItem) → IsItemOf q s (new_window q s) MemoryWindow bus i → 0xffff_ffff ≤ i.extent.highest
  memory_items = items_high q s system nested MemoryWindow 0xffff_ffff (λ f p plain class. plain_high f p (λ io. memory_not_io (io ∙ class))) (λ b listed bridge has. omega arith)

  prefetch_window : (wide : Bool) → 0xffff_ffff ≤ (if wide then 0xffff_ffff_ffff_ffff else 0xffff_ffff)
  prefetch_window true = omega arith
  prefetch_window false = omega arith

  pub prefetch_items : (bus : ℕ) (i : PlacingItem) → IsItemOf q s (new_window q s) PrefetchWindow bus i → 0xffff_ffff ≤ i.extent.highest
  prefetch_items = items_high q s system nested PrefetchWindow 0xffff_ffff (λ f p plain class. plain_high f p (λ io. prefetch_not_io (io ∙ class))) (λ b listed bridge has. prefetch_window (is_wide_window PrefetchWindow b.probe))

  -- and above 4 GB all that is prefetchable anywhere
  module _ (high : nat_le pools.prefetch.last 0xffff_ffff ≡ false) where
    -- a BAR that is served is wide, and so are the windows that lead to it
    served_high : (f : Function) (n : ℕ) → is_served s pools f n ≡ true
        → (is_wide (bar_at f.probe n) ≡ true) × (list_all (λ (b : Function). is_wide_window PrefetchWindow b.probe) (bridges_above s f.slot.bus) ≡ true)
    served_high f n served =
        let all = list_all (λ (b : Function). is_wide_window PrefetchWindow b.probe) (bridges_above s f.slot.bus) in
        and_parts (is_wide (bar_at f.probe n)) all
        (sym (ap (λ t. cond t (list_all (λ (b : Function). has_window PrefetchWindow b.probe) (bridges_above s f.slot.bus)) (is_wide (bar_at f.probe n) && all)) high) ∙ served)

    own_wide : (f : Function) (p : Part) → is_window p ≡ false → same_class PrefetchWindow (class_of s pools f p) ≡ true → 0xffff_ffff_ffff_ffff ≤ highest_of f p
    own_wide f (Bar n) plain same =
        let most = (highest_by (bar_at f.probe n)).0 (served_high f n (served_by_class (is_io (bar_at f.probe n)) (is_prefetchable (bar_at f.probe n)) (is_served s pools f n) same)).0 in
        omega (arith, most)
    own_wide f Rom plain same = absurd (both_ways false refl same)
    own_wide f (Window kind) plain same = absurd (both_ways true plain refl)

    above_wide : (b f : Function) (p : Part) → is_window p ≡ false → same_class PrefetchWindow (class_of s pools f p) ≡ true → Contains (bridges_above s f.slot.bus) b → is_wide_window PrefetchWindow b.probe ≡ true
    above_wide b f (Bar n) plain same above =
        all_gives (λ (d : Function). is_wide_window PrefetchWindow d.probe) (bridges_above s f.slot.bus) b
        (served_high f n (served_by_class (is_io (bar_at f.probe n)) (is_prefetchable (bar_at f.probe n)) (is_served s pools f n) same)).1 above
    above_wide b f Rom plain same above = absurd (both_ways false refl same)
    above_wide b f (Window kind) plain same above = absurd (both_ways true plain refl)

    -- with something prefetchable behind it a bridge has a wide window
    bridge_wide : (b : Function) → Contains s b → is_bridge b ≡ true → has_of q s PrefetchWindow b ≡ true → 0xffff_ffff_ffff_ffff ≤ highest_in PrefetchWindow b.probe
    bridge_wide b listed bridge has =
        let is : IsPlannedBehind q s pools PrefetchWindow classes b = planned_behind q s pools PrefetchWindow classes b has in
        let wide = above_wide b is.f is.p (listed_plain is.f is.p is.part) is.class
        (in_filter_from (λ (d : Function). is_bridge d && is_behind d is.f.slot.bus) s b listed (and_from (is_bridge b) (is_behind b is.f.slot.bus) bridge is.behind)) in
        let most : highest_in PrefetchWindow b.probe ≡ 0xffff_ffff_ffff_ffff = ap (λ t. if t then 0xffff_ffff_ffff_ffff else 0xffff_ffff) wide in
        omega (arith, most)

    pub wide_items : (bus : ℕ) (i : PlacingItem) → IsItemOf q s (new_window q s) PrefetchWindow bus i → 0xffff_ffff_ffff_ffff ≤ i.extent.highest
    wide_items = items_high q s system nested PrefetchWindow 0xffff_ffff_ffff_ffff (λ f p plain class. own_wide f p plain (ap (same_class PrefetchWindow) (sym (classes f p) ∙ class))) bridge_wide
