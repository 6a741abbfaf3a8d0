-- What stands in I/O is reached through I/O windows from a range of I/O, so no I/O BAR is left above it.
use Rattle.std.proofs.Common.{◌≡◌, ℕ, zero, suc, ◌<◌, inl, inr, List, [], ◌∷◌, map, refl, Bool, true, false, ◌&&◌, ◌||◌, not, arith, sym, ◌∙◌, ap, subst}
use Rattle.std.specs.Bool.{if◌then◌else◌}
use Rattle.std.specs.List.{Contains, list_all, list_any, filter}
use Rattle.std.proofs.lemmas.Bool.{and_parts, and_from, both_ways, not-true, not_from_true, not_from_false, false_from_ne_true, or_cases, or_from}
use Rattle.pci_spec.specs.Slot.{Slot, same_slot}
use Rattle.pci_spec.specs.Bar.{bar_at, has_bar, is_io}
use Rattle.pci_spec.specs.Decoded.{Range}
use Rattle.pci_spec.specs.Window.{WindowKind, IoWindow, MemoryWindow, PrefetchWindow, has_window}
use Rattle.pci_spec.specs.System.{System, Function, IsSystem, Space, Io, Memory, Bar, is_bridge, is_implemented, is_window, space_of, window_space}
use Rattle.pci_spec.specs.Bus.{secondary, is_root, IsNested}
use Rattle.pci_spec.proofs.BusRanges.{root_means}
use Rattle.pci_spec.proofs.Members.{in_filter_to, IsMade, in_map_to}
use Rattle.pci_spec.proofs.SameSlot.{slots_same}
use Rattle.plan_spec.specs.Plan.{bridges_above, is_io_part}
use Rattle.plan_spec.proofs.Planning.AboveBuses.{above_to, all_above, all_above_root, root_or_led}
use Rattle.plan_spec.proofs.Planning.Behind.{Passes, all_gives, any_gives}
use Rattle.plan_spec.proofs.Planning.LaidOut.{opening}
use Rattle.plan_spec.proofs.Planning.Safe.{order_of}
use Rattle.judge_spec.specs.ToldRegion.{ToldRegion, told_regions}
use Rattle.settle_spec.specs.Lines.{line_bus, is_command_line}
use Rattle.settle_spec.specs.Lists.{RootRange, Request, is_had_by}
use Rattle.settle_spec.specs.Parts.{FunctionPart, system_parts, function_parts, addresses, lies_within, is_empty, is_left, is_part, header_bars, header_parts, has_left, class_in, are_same_space}
use Rattle.settle_spec.specs.Stands.{part_space, window_part, is_in_lists, class_in_space, prefetchable_range_class, range_class, stands, range_stands}
use Rattle.settle_spec.specs.Registers.{is_answered_by, has_own}
use Rattle.settle_spec.specs.ToldLaws.{IsInStandingWindow}
use Rattle.settle_spec.proofs.BridgeOver.{over_leads}
use Rattle.settle_spec.proofs.Nested.{is_no_root}
use Rattle.settle_spec.proofs.ToldStanding.{ranges_stand_in_place}
use Rattle.settle_laws.proofs.Apart.{in_root_lists}
use Rattle.settle_laws.proofs.Standing.{part_of, stands_by_itself}
use Rattle.settle_laws.proofs.HeaderParts.{part_cases}
use Rattle.settle_laws.proofs.Held.{and_second_false, left_behind}
use Rattle.settle_laws.proofs.Kept.{one_space, window_listed, within_over}
use Rattle.settle_laws.proofs.NonePasses.{none_by}
use Rattle.settle_laws.proofs.PartClasses.{space_of_class}

memory_is_no_io : (io : Bool) → are_same_space Io (if io then Io else Memory) ≡ true → io ≡ true
memory_is_no_io true e = refl
memory_is_no_io false e = absurd (both_ways false refl e)

io_class : (c : WindowKind) → window_space c ≡ Io → c ≡ IoWindow
io_class IoWindow at = refl
io_class MemoryWindow at = absurd (both_ways (are_same_space Io Memory) refl (ap (are_same_space Io) at))
io_class PrefetchWindow at = absurd (both_ways (are_same_space Io Memory) refl (ap (are_same_space Io) at))

abbrev has_io : Function → Bool
has_io d = has_window IoWindow d.probe

-- a list that has a range isn't empty
not_empty : (bus : ℕ) (r : Range) (list : List RootRange) → list_any (lies_within r) (map (λ (x : RootRange). x.range) (filter (λ x. is_had_by x.root bus) list)) ≡ true → is_empty list ≡ false
not_empty bus r [] is = absurd (both_ways false refl is)
not_empty bus r (x ∷ more) is = refl

module _ (q : Request) (s : System) (system : IsSystem s) (nested : IsNested q.roots s) where
  -- what leaves an I/O BAR
  abbrev pub is_cause : ℕ → Bool
  is_cause bus = is_empty q.lists.io || list_any (λ b. not (has_window IoWindow b.probe)) (bridges_above s bus)

  -- there is a range of I/O, and each bridge above a bus has an I/O window
  pub record IsReached (bus : ℕ) : Type 0 where
    pub lists : is_empty q.lists.io ≡ false
    pub windows : list_all has_io (bridges_above s bus) ≡ true

  pub no_cause : (bus : ℕ) → IsReached bus → is_cause bus ≡ false
  no_cause bus is =
      or_from (is_empty q.lists.io) (list_any (λ b. not (has_io b)) (bridges_above s bus)) is.lists
      (none_by (λ b. not (has_io b)) (bridges_above s bus) (λ d has. not_from_true (has_io d) (all_gives has_io (bridges_above s bus) d is.windows has)))

  -- so it is below a bridge with such a window above which it is so
  behind : (b : Function) → Contains s b → is_bridge b ≡ true → has_io b ≡ true → IsReached b.slot.bus → IsReached (secondary b)
  behind b listed bridge has is = record {
    lists = is.lists;
    windows = all_above q.roots s system nested has_io b listed bridge ∙ and_from (list_all has_io (bridges_above s b.slot.bus)) (has_io b) is.windows has;
  }

  reached_within : (n : ℕ) (r : FunctionPart) → r.function.slot.bus < n → Contains (system_parts q s) r → part_space r ≡ Io → stands q s r ≡ true → IsReached r.function.slot.bus
  reached_within zero r less listed io is = absurd (let no : ⊥ = omega (arith, less) in no)
  reached_within (suc n) r less listed io is = elim (root_or_led q.roots s system nested r.function (part_of q s r listed).listed) [
    | inl root ↦
        let bus = r.function.slot.bus in
        record {
          lists = not_empty bus (addresses r) q.lists.io (subst (λ space. is_in_lists q bus (addresses r) space ≡ true) io (in_root_lists q s nested r listed is ((root_means q.roots bus).1 root)));
          windows = all_above_root q.roots s system nested has_io bus root;
        }
    | inr (b, leader) ↦
        let to = leader.leads in
        let up = order_of q.roots s nested b leader.listed leader.bridge in
        let class = io_class (class_in q s r.function r.part) (space_of_class q s r.function r.part ∙ io) in
        let over : stands q s (window_part IoWindow b) ≡ true = subst (λ c. stands q s (window_part c b) ≡ true) class (within_over q s system nested b leader.listed leader.bridge r listed to is).1 in
        let opened = opening b IoWindow ((stands_by_itself q s nested).only (window_part IoWindow b) leader.listed over) in
        subst IsReached to
        (behind b leader.listed leader.bridge opened.there
        (reached_within n (window_part IoWindow b) (omega (arith, less, to, up)) (window_listed q s system nested b leader.listed leader.bridge IoWindow over) refl over))
  ]

  -- what stands in I/O is reached
  pub part_reached : (r : FunctionPart) → Contains (system_parts q s) r → part_space r ≡ Io → stands q s r ≡ true → IsReached r.function.slot.bus
  part_reached r listed io is = reached_within (suc r.function.slot.bus) r (omega arith) listed io is

  -- and so is the bus behind a window that does
  pub window_reached : (b : Function) → Contains s b → is_bridge b ≡ true → stands q s (window_part IoWindow b) ≡ true → IsReached (secondary b)
  window_reached b listed bridge is =
      behind b listed bridge (opening b IoWindow ((stands_by_itself q s nested).only (window_part IoWindow b) listed is)).there
      (part_reached (window_part IoWindow b) (window_listed q s system nested b listed bridge IoWindow is) refl is)

  -- a told range that stands in I/O is on a root or on such a bus
  pub range_reached : (x : ToldRegion) → range_stands q s x ≡ true → x.told.space ≡ Io → is_root q.roots (line_bus x) ≡ false → IsReached (line_bus x)
  range_reached x is io off = elim (ranges_stand_in_place q s x is).in_place [
    | inl root ↦ absurd (both_ways (is_root q.roots (line_bus x)) off root)
    | inr window ↦
        let w : IsInStandingWindow q s x = window in
        let leads = over_leads s (line_bus x) w.b w.over in
        let class : range_class q s x ≡ IoWindow = ap (λ sp. class_in_space sp (if x.told.prefetchable then prefetchable_range_class q s x else MemoryWindow)) io in
        subst IsReached leads.2 (window_reached w.b leads.0 leads.1 (subst (λ c. stands q s (window_part c w.b) ≡ true) class w.stands))
  ]

  -- ---- so none is left

  -- on such a bus no function has an I/O BAR that is left,
  pub left_nowhere : (f : Function) → is_cause f.slot.bus ≡ false → has_left q s f ≡ false
  left_nowhere f none = false_from_ne_true (has_left q s f) (λ left.
      let found : Passes (λ p. is_implemented f p && is_left q s f p) (header_bars f) = any_gives (λ p. is_implemented f p && is_left q s f p) (header_bars f) left in
      both_ways (is_cause f.slot.bus) none (and_parts (is_io_part f found.x) (is_cause f.slot.bus) (and_parts (is_implemented f found.x) (is_left q s f found.x) found.is).1).1)

  -- nor has a bridge above.
  pub unleft_above : (f b : Function) → is_cause f.slot.bus ≡ false → Contains (bridges_above s f.slot.bus) b → has_left q s b ≡ false
  unleft_above f b none above = false_from_ne_true (has_left q s b) (λ left. both_ways (is_cause f.slot.bus) none (left_behind q s system nested f b above left))

  -- an I/O BAR that is looked at isn't left
  pub own_cause : (f : Function) → list_any (λ r. are_same_space Io (part_space r) && not (is_window r.part)) (function_parts q s f) ≡ true → is_cause f.slot.bus ≡ false
  own_cause f own =
      let test = λ (r : FunctionPart). are_same_space Io (part_space r) && not (is_window r.part) in
      let found : Passes test (function_parts q s f) = any_gives test (function_parts q s f) own in
      let made : IsMade (λ p. record { function = f; part = p }) (filter (is_part q s f) (header_parts f)) found.x = in_map_to (λ p. record { function = f; part = p }) (filter (is_part q s f) (header_parts f)) found.x found.listed in
      let p = made.from in
      let part = in_filter_to (is_part q s f) (header_parts f) p made.has in
      let is = and_parts (are_same_space Io (space_of f p)) (not (is_window p)) (ap test made.is ∙ found.is) in
      elim (part_cases f p part.0) [
        | inl bar ↦
            let io = memory_is_no_io (is_io (bar_at f.probe bar.n)) (ap (λ x. are_same_space Io (space_of f x)) bar.is ∙ is.0) in
            let kept = not-true (is_left q s f (Bar bar.n)) (and_parts (has_bar f.probe bar.n) (not (is_left q s f (Bar bar.n))) (ap (is_part q s f) bar.is ∙ part.1)).1 in
            and_second_false (is_io_part f (Bar bar.n)) (is_cause f.slot.bus) io kept
        | inr (inl window) ↦ absurd (both_ways false refl (ap (λ x. not (is_window x)) window.is ∙ is.1))
        | inr (inr rom) ↦ absurd (both_ways false refl (ap (λ x. are_same_space Io (space_of f x)) rom ∙ is.0))
      ]

  -- a function on no root that has something of its own to answer in I/O is on such a bus
  answers_cause : (f : Function) → is_root q.roots f.slot.bus ≡ false → has_own q s Io f ≡ true → is_cause f.slot.bus ≡ false
  answers_cause f off own = elim (or_cases (list_any (is_answered_by q s Io f) (told_regions q.told)) (list_any (λ r. are_same_space Io (part_space r) && not (is_window r.part)) (function_parts q s f)) own) [
    | inr parts ↦ own_cause f parts
    | inl told ↦
        let found : Passes (is_answered_by q s Io f) (told_regions q.told) = any_gives (is_answered_by q s Io f) (told_regions q.told) told in
        let x = found.x in
        let three = and_parts (is_command_line x && same_slot x.told.slot f.slot && are_same_space Io x.told.space) (range_stands q s x) found.is in
        let two = and_parts (is_command_line x && same_slot x.told.slot f.slot) (are_same_space Io x.told.space) three.0 in
        let slot : x.told.slot ≡ f.slot = slots_same x.told.slot f.slot (and_parts (is_command_line x) (same_slot x.told.slot f.slot) two.0).1 in
        let at : line_bus x ≡ f.slot.bus = ap (λ (y : Slot). y.bus) slot in
        no_cause f.slot.bus (subst IsReached at (range_reached x three.1 (sym (one_space Io x.told.space two.1)) (subst (λ n. is_root q.roots n ≡ false) (sym at) off)))
  ]

  -- The law: above what answers I/O no I/O BAR is left, whatever is told.
  pub unleft : (f b : Function) (space : Space) → has_own q s space f ≡ true → Contains (bridges_above s f.slot.bus) b → not (are_same_space space Io && has_left q s b) ≡ true
  unleft f b Memory own above = refl
  unleft f b Io own above =
      let is = above_to s f.slot.bus b above in
      let off = false_from_ne_true (is_root q.roots f.slot.bus) (is_no_root q.roots s system nested b f.slot.bus is.listed is.bridge is.behind) in
      not_from_false (has_left q s b) (unleft_above f b (answers_cause f off own) above)
