-- What is settled stands where it is, whatever is fixed then: each of its parts lies in the lists of its root or in the window over it, and apart.
use Rattle.std.proofs.Common.{◌≡◌, ◌&&◌, ℕ, ◌≤◌, inl, inr, List, Bool, true, false, cond, not, arith, refl, sym, ◌∙◌, ap, subst, Some, []}
use Rattle.std.specs.List.{Contains, list_any}
use Rattle.std.proofs.lemmas.Bool.{and_from, and_parts, both_ways, false_from_ne_true, not_from_false}
use Rattle.pci_spec.specs.Slot.{Slot}
use Rattle.pci_spec.specs.Bar.{bar_at, is_io, is_prefetchable}
use Rattle.pci_spec.specs.Decoded.{Range}
use Rattle.pci_spec.specs.Window.{WindowKind, IoWindow, MemoryWindow, PrefetchWindow, has_window}
use Rattle.pci_spec.specs.System.{System, Function, Io, Memory, Part, Bar, Rom, Window, space_of, window_space}
use Rattle.pci_spec.specs.Bus.{are_siblings, is_root, LeadsTo}
use Rattle.pci_spec.proofs.BusRanges.{root_means}
use Rattle.pci_spec.proofs.Members.{in_map_from}
use Rattle.plan_spec.specs.Plan.{bridges_above, is_open, is_served}
use Rattle.plan_spec.specs.Planning.Layout.{range_of, IsInside, LieApart}
use Rattle.plan_spec.proofs.Planning.AboveBuses.{root_or_led}
use Rattle.plan_spec.proofs.Planning.Moved.{secondary_same}
use Rattle.settle_spec.specs.FirstPlace.{ranges_are_apart}
use Rattle.settle_spec.specs.Lists.{Request}
use Rattle.settle_spec.specs.Parts.{FunctionPart, system_parts, addresses, is_empty, lies_within, holds_range, upper_pools, bridge_over, is_in_memory, is_in_prefetch, prefetchable_class, class_in, are_same_space}
use Rattle.settle_spec.specs.Stands.{rank, window_part, part_space, are_beside, is_in_lists, is_in_window, is_in_place, is_kept_off, stands}
use Rattle.settle_spec.specs.Keeping.Registers.{settled, settled_function}
use Rattle.settle_spec.proofs.BridgeOver.{over_is}
use Rattle.settle_laws.specs.Keeping.PlacesLaws.{CanSettle, end_range}
use Rattle.settle_laws.proofs.Keeping.Again.{settled_alike, all_alike}
use Rattle.settle_laws.proofs.Keeping.AgainParts.{IsSettledPart, settled_end, settled_part}
use Rattle.settle_laws.proofs.Alike.{any_above, rank_alike, space_alike}
use Rattle.settle_laws.proofs.AllInPlace.{all_in_place, apart_from, beside_of, looked_at, two_of}
use Rattle.settle_laws.proofs.Keeping.Claimed.{HasEnd, bridge_stays, ends_open, part_shown}
use Rattle.settle_laws.proofs.Keeping.Fits.{was}
use Rattle.settle_laws.proofs.InLists.{within_from, within_gives}
use Rattle.settle_laws.proofs.Keeping.Ends.{IsInWindow, in_window, on_root, are_apart as ends_apart}
use Rattle.settle_laws.proofs.Kept.{off_roots, one_space}
use Rattle.settle_laws.proofs.Keeping.Moves.{moves, new_nested, new_system}
use Rattle.settle_laws.proofs.PartClasses.{by_tests, by_windows, prefetchable_space, prefetch_windows}
use Rattle.settle_laws.proofs.NonePasses.{none_by}
use Rattle.settle_spec.specs.Kept.{Kept}
use Rattle.settle_laws.proofs.AgainKept.{tests_same}
use Rattle.settle_laws.proofs.Untold.{none_kept_off}

-- what the windows over a part have to be for its class to be the one that it had
record AreWindowsOf (class : WindowKind) (memory prefetch : Bool) : Type 0 where
  plain : class ≡ MemoryWindow → memory ≡ true
  apart : class ≡ PrefetchWindow → memory ≡ false
  held : class ≡ PrefetchWindow → prefetch ≡ true

class_by_windows : (class : WindowKind) (memory prefetch new : Bool) → window_space class ≡ Memory → AreWindowsOf class memory prefetch → by_windows false memory prefetch new ≡ class
class_by_windows IoWindow memory prefetch new at windows = absurd (both_ways (are_same_space Io Memory) refl (ap (are_same_space Io) (sym at)))
class_by_windows MemoryWindow memory prefetch new at windows = ap (λ m. by_windows false m prefetch new) (windows.plain refl)
class_by_windows PrefetchWindow memory prefetch new at windows = (let no = windows.apart refl in let is = windows.held refl in λ i. by_windows false (no i) (is i) new)

-- no address is in two ranges that are apart
not_in_both : (r w v : Range) → r.first ≤ r.last → IsInside r w → IsInside r v → LieApart w v → ⊥
not_in_both r w v some (from_w, end_w) (from_v, end_v) (inl under) = let no : ⊥ = omega (arith, some, end_w, from_v, under) in no
not_in_both r w v some (from_w, end_w) (from_v, end_v) (inr over) = let no : ⊥ = omega (arith, some, end_v, from_w, over) in no

module _ (q : Request) (s : System) (k : Kept) (can : CanSettle q s k) (fixed : List Slot) where
  abbrev kq : Request
  kq = record q { fixed = fixed; anew = false }

  abbrev now : Function → Function
  now f = settled_function q s k f

  abbrev t : System
  t = settled q s k

  -- ---- the window over a part

  module _ (f b : Function) (listed : Contains s f) (leads : LeadsTo s b f.slot.bus) where
    over_now : bridge_over t f.slot.bus ≡ Some (now b)
    over_now =
        over_is q.roots t (new_system q s k can) (new_nested q s k can) f.slot.bus (now b)
        (in_map_from now s b leads.0, bridge_stays q s k can b leads.0 ∙ leads.1, secondary_same b (now b) (moves q s k can b leads.0) (was q s k can b leads.0).image leads.1 ∙ leads.2)

    module _ (p : Part) (h : HasEnd q s k can f p) where
      abbrev class : WindowKind
      class = class_in q s f p

      over : IsInWindow q s k can f p b h.at
      over = in_window q s k can f b p listed h.there leads h.at h.ends

      -- it is open, and around the part
      open_over : is_open (now b) class ≡ true
      open_over = ends_open q s k can b class leads.0 leads.1 over.w over.ends

      inside_over : IsInside (range_of (now f) p) (range_of (now b) (Window class))
      inside_over = subst (λ r. IsInside r (range_of (now b) (Window class))) (sym h.shown) (subst (IsInside h.at) (sym (part_shown q s k can b (Window class) leads.0 leads.1 over.w over.ends)) over.inside)

      held_over : holds_range class (range_of (now f) p) (bridge_over t f.slot.bus) ≡ true
      held_over =
          ap (holds_range class (range_of (now f) p)) over_now
          ∙ and_from (is_open (now b) class) (lies_within (range_of (now f) p) (range_of (now b) (Window class))) open_over (within_from (range_of (now f) p) (range_of (now b) (Window class)) inside_over)

    -- ---- classes stay

    module _ (n : ℕ) (h : HasEnd q s k can f (Bar n)) where
      abbrev range : Range
      range = range_of (now f) (Bar n)

      not_in_memory : class_in q s f (Bar n) ≡ PrefetchWindow → is_in_memory t (now f) n ≡ false
      not_in_memory e = false_from_ne_true (is_in_memory t (now f) n) (λ is.
          let parts = and_parts (is_open (now b) MemoryWindow) (lies_within range (range_of (now b) (Window MemoryWindow))) (sym (ap (holds_range MemoryWindow range) over_now) ∙ is) in
          let m = settled_end q s k can b (Window MemoryWindow) leads.0 leads.1 parts.0 in
          let p = over (Bar n) h in
          let apart = ends_apart q s k can b b (Window MemoryWindow) (Window PrefetchWindow) leads.0 leads.0 leads.1 leads.1 refl (inl refl) (inr (λ same. let no : ⊥ = omega (arith, same) in no))
          m.at p.w m.ends (subst (λ c. end_range q s k (window_part c b) ≡ Some p.w) e p.ends) in
          let some : h.at.first ≤ h.at.last = subst (λ (r : Range). r.first ≤ r.last) h.shown (let up : range.first ≤ range.last = omega arith in up) in
          not_in_both h.at m.at p.w some (subst (λ r. IsInside r m.at) h.shown (subst (IsInside range) m.shown (within_gives range (range_of (now b) (Window MemoryWindow)) parts.1))) p.inside apart)

      in_prefetch : class_in q s f (Bar n) ≡ PrefetchWindow → is_in_prefetch t (now f) n ≡ true
      in_prefetch e =
          let none = λ (d : Function). not (has_window PrefetchWindow d.probe) in
          and_from (holds_range PrefetchWindow range (bridge_over t f.slot.bus)) (not (list_any none (bridges_above t f.slot.bus)))
          (subst (λ c. holds_range c range (bridge_over t f.slot.bus) ≡ true) e (held_over (Bar n) h))
          (not_from_false (list_any none (bridges_above t f.slot.bus))
          (sym (any_above q s t (all_alike q s k can) (λ x. not (has_window PrefetchWindow x)) f.slot.bus)
          ∙ none_by none (bridges_above s f.slot.bus) (λ d above. ap not (prefetch_windows q s f n e d above))))

      prefetchable_stays : is_io (bar_at f.probe n) ≡ false → is_prefetchable (bar_at f.probe n) ≡ true → prefetchable_class kq t (now f) n ≡ prefetchable_class q s f n
      prefetchable_stays memory prefetchable =
          let served = not (is_empty q.lists.prefetch) && is_served t (upper_pools q.lists.prefetch) (now f) n in
          let class_is : class_in q s f (Bar n) ≡ prefetchable_class q s f n = (λ i. by_tests (memory i) (prefetchable i) (prefetchable_class q s f n)) in
          let off : is_root q.roots f.slot.bus ≡ false = subst (λ m. is_root q.roots m ≡ false) leads.2 (off_roots q s can.system can.nested b leads.0 leads.1) in
          ap (λ x. by_windows x (is_in_memory t (now f) n) (is_in_prefetch t (now f) n) served) off
          ∙ class_by_windows (prefetchable_class q s f n) (is_in_memory t (now f) n) (is_in_prefetch t (now f) n) served (prefetchable_space q s f n)
          record {
            plain = λ e. subst (λ c. holds_range c range (bridge_over t f.slot.bus) ≡ true) (class_is ∙ e) (held_over (Bar n) h);
            apart = λ e. not_in_memory (class_is ∙ e);
            held = λ e. in_prefetch (class_is ∙ e);
          }

    class_stays : (p : Part) → HasEnd q s k can f p → class_in kq t (now f) p ≡ class_in q s f p
    class_stays (Bar n) h = tests_same (is_io (bar_at f.probe n)) (is_prefetchable (bar_at f.probe n)) (prefetchable_class kq t (now f) n) (prefetchable_class q s f n) (prefetchable_stays n h)
    class_stays Rom h = refl
    class_stays (Window c) h = refl

  -- ---- in its place

  settled_in_place : (f : Function) (p : Part) → Contains s f → (h : HasEnd q s k can f p) → is_in_place kq t (looked_at kq t) record { function = now f; part = p } ≡ true
  settled_in_place f p listed h =
      let r : FunctionPart = record { function = now f; part = p } in
      let lists = is_in_lists q f.slot.bus (addresses r) (part_space r) in
      let test = looked_at kq t in
      elim (root_or_led q.roots s can.system can.nested f listed) [
        | inl root ↦
            let is_one = (root_means q.roots f.slot.bus).1 root in
            ap (λ b. cond b lists (is_in_window test (class_in kq t (now f) p) (addresses r) (bridge_over t f.slot.bus))) is_one
            ∙ subst (λ sp. is_in_lists q f.slot.bus (addresses r) sp ≡ true) (space_alike f (now f) (settled_alike q s k can f listed) p)
            (subst (λ w. is_in_lists q f.slot.bus w (space_of f p) ≡ true) (sym h.shown) (on_root q s k can f p listed h.there is_one h.at h.ends))
        | inr (b, leader) ↦
            let leads : LeadsTo s b f.slot.bus = (leader.listed, leader.bridge, leader.leads) in
            let c = class_in q s f p in
            let off : is_root q.roots f.slot.bus ≡ false = subst (λ n. is_root q.roots n ≡ false) leader.leads (off_roots q s can.system can.nested b leader.listed leader.bridge) in
            ap (λ x. cond x lists (is_in_window test (class_in kq t (now f) p) (addresses r) (bridge_over t f.slot.bus))) off
            ∙ ap (is_in_window test (class_in kq t (now f) p) (addresses r)) (over_now f b listed leads)
            ∙ ap (λ d. lies_within (addresses r) (addresses (window_part d (now b))) && test (window_part d (now b))) (class_stays f b listed leads p h)
            ∙ and_from (lies_within (addresses r) (addresses (window_part c (now b)))) (test (window_part c (now b)))
            (within_from (addresses r) (addresses (window_part c (now b))) (inside_over f b listed leads p h)) (open_over f b listed leads p h)
      ]

  in_place : (r : FunctionPart) → Contains (system_parts kq t) r → is_in_place kq t (looked_at kq t) r ≡ true
  in_place r in_r =
      let is : IsSettledPart q s k can r = settled_part q s k can r in_r in
      subst (λ x. is_in_place kq t (looked_at kq t) x ≡ true) is.is (settled_in_place is.f is.p is.listed (settled_end q s k can is.f is.p is.listed is.there is.part))

  -- ---- apart

  two_apart : (r u : FunctionPart) → Contains (system_parts kq t) r → Contains (system_parts kq t) u → are_beside kq r u ≡ true → (rank r ≡ rank u → ⊥) → ranges_are_apart (addresses r) (addresses u) ≡ true
  two_apart r u in_r in_u beside differ =
      let x : IsSettledPart q s k can r = settled_part q s k can r in_r in
      let y : IsSettledPart q s k can u = settled_part q s k can u in_u in
      let h = settled_end q s k can x.f x.p x.listed x.there x.part in
      let e = settled_end q s k can y.f y.p y.listed y.there y.part in
      let is_x = settled_alike q s k can x.f x.listed in
      let is_y = settled_alike q s k can y.f y.listed in
      let rank_x = rank_alike x.f (now x.f) is_x x.p ∙ ap rank x.is in
      let rank_y = rank_alike y.f (now y.f) is_y y.p ∙ ap rank y.is in
      let space_x = space_alike x.f (now x.f) is_x x.p ∙ ap part_space x.is in
      let space_y = space_alike y.f (now y.f) is_y y.p ∙ ap part_space y.is in
      let range_x : addresses r ≡ h.at = sym (ap addresses x.is) ∙ h.shown in
      let range_y : addresses u ≡ e.at = sym (ap addresses y.is) ∙ e.shown in
      let parts = and_parts (are_siblings q.roots r.function.slot.bus u.function.slot.bus) (are_same_space (part_space r) (part_space u)) beside in
      let buses : are_siblings q.roots x.f.slot.bus y.f.slot.bus ≡ true =
      ap (λ (z : FunctionPart). are_siblings q.roots z.function.slot.bus y.f.slot.bus) x.is ∙ ap (λ (z : FunctionPart). are_siblings q.roots r.function.slot.bus z.function.slot.bus) y.is ∙ parts.0 in
      let apart = ends_apart q s k can x.f y.f x.p y.p x.listed y.listed x.there y.there (space_x ∙ one_space (part_space r) (part_space u) parts.1 ∙ sym space_y) (beside_of q.roots x.f y.f buses)
      (two_of record { function = x.f; part = x.p } record { function = y.f; part = y.p } (λ same. differ (sym rank_x ∙ same ∙ rank_y))) h.at e.at h.ends e.ends in
      apart_from (addresses r) (addresses u) (subst (λ w. LieApart w (addresses u)) (sym range_x) (subst (LieApart h.at) (sym range_y) apart))

  -- Where no line keeps a part off, each part of what is settled stands for a request that keeps what stands.
  pub stand_off : ((r : FunctionPart) → Contains (system_parts kq t) r → is_kept_off kq t r ≡ false) → (r : FunctionPart) → Contains (system_parts kq t) r → stands kq t r ≡ true
  stand_off off = all_in_place kq t (new_system q s k can) (new_nested q s k can) refl off in_place two_apart

  -- The law: so it is where nothing is told.
  pub stand_kept : q.told.ranges ≡ [] → (r : FunctionPart) → Contains (system_parts kq t) r → stands kq t r ≡ true
  stand_kept untold = stand_off (λ r listed. none_kept_off kq untold t r)

-- The request that it was settled for is one, if it placed nothing anew.
pub all_stand : (q : Request) → q.told.ranges ≡ [] → (s : System) (k : Kept) → CanSettle q s k → q.anew ≡ false → (r : FunctionPart) → Contains (system_parts q (settled q s k)) r → stands q (settled q s k) r ≡ true
all_stand q untold s k can kept =
    subst (λ (kq : Request). (r : FunctionPart) → Contains (system_parts kq (settled q s k)) r → stands kq (settled q s k) r ≡ true) (λ i. record q { anew = sym kept i }) (stand_kept q s k can q.fixed untold)
