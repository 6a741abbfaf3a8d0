-- Where each part stands, each does whatever Command enables; and where every part is enabled, nothing is cut off.
use Rattle.std.proofs.Common.{◌≡◌, ◌&&◌, ◌||◌, ℕ, inl, inr, [], Bool, true, false, cond, not, refl, sym, ◌∙◌, ap, subst, Option, None, Some}
use Rattle.std.specs.Bool.{nat_le, ◌==◌, if◌then◌else◌}
use Rattle.std.specs.List.{AllZip, Contains, list_all, list_any}
use Rattle.std.proofs.lemmas.Bool.{and_from, and_parts, cases_Bool, not-true, not_from_true, or_cases}
use Rattle.pci_spec.specs.Slot.{Slot, same_slot}
use Rattle.pci_spec.specs.Bar.{bar_at, is_io, is_prefetchable, is_wide}
use Rattle.pci_spec.specs.Decoded.{Range}
use Rattle.pci_spec.specs.Window.{WindowKind, MemoryWindow, PrefetchWindow, has_window, is_wide_window}
use Rattle.pci_spec.specs.System.{System, Function, IsSystem, Space, Part, Bar, Rom, Window, is_bridge, Io, Memory, is_space_on, is_window, window_space}
use Rattle.pci_spec.specs.Bus.{secondary, are_siblings, is_root, IsNested, LeadsTo}
use Rattle.pci_spec.proofs.BusRanges.{all_from, all_gives, root_means}
use Rattle.pci_spec.proofs.Members.{in_flat_map_from, in_map_to, IsMade}
use Rattle.pci_spec.proofs.Pairs.{member_back}
use Rattle.pci_spec.proofs.SameSlot.{slots_same}
use Rattle.plan_spec.specs.Plan.{IsMoved, bridges_above, is_served}
use Rattle.plan_spec.specs.Planning.Layout.{range_of}
use Rattle.plan_spec.proofs.PlanningLaws.{moved_has_chains, moved_is_in_profile, moved_is_nested, moved_is_system}
use Rattle.plan_spec.proofs.Planning.AboveBuses.{above_to, all_above as all_over, all_above_root, root_or_led}
use Rattle.plan_spec.proofs.Planning.Behind.{Passes, any_gives}
use Rattle.plan_spec.proofs.Planning.ShownSystem.{zip_by}
use Rattle.judge_spec.specs.ToldRegion.{ToldRegion, told_regions}
use Rattle.settle_spec.specs.FirstPlace.{ranges_are_apart}
use Rattle.settle_spec.specs.Lines.{line_bus, line_range, is_command_line}
use Rattle.settle_spec.specs.Lists.{Request}
use Rattle.settle_spec.specs.Parts.{FunctionPart, system_parts, function_parts, parts_of, addresses, is_empty, is_part, lies_within, holds_range, upper_pools, bridge_over, class_in, are_same_space}
use Rattle.settle_spec.specs.Stands.{rank, window_part, part_space, are_beside, is_in_lists, is_in_window, is_in_place, is_kept_off, leads_to_range, leads_to_told, takes_from, stands, class_in_space, range_class, are_bridges_on, range_stands}
use Rattle.settle_spec.specs.Registers.{is_answered_by, has_own}
use Rattle.settle_spec.specs.Writes.{is_cut_off_in}
use Rattle.settle_spec.proofs.BridgeOver.{over_is, over_leads}
use Rattle.settle_spec.proofs.ToldStanding.{ranges_stand_in_place}
use Rattle.settle_laws.proofs.Apart.{apart_where_beside, in_root_lists, in_window_over}
use Rattle.settle_laws.proofs.Standing.{stands_by_itself, stands_is}
use Rattle.settle_laws.proofs.AllInPlace.{all_in_place, looked, looked_at}
use Rattle.settle_laws.proofs.AllStand.{all_stay}
use Rattle.settle_laws.proofs.Alike.{IsAlike, all_above, any_above, bus_alike, header_alike, of_bridges, part_alike, rank_alike, space_alike}
use Rattle.settle_laws.proofs.HeaderParts.{window_of}
use Rattle.settle_laws.proofs.Kept.{above_stays, in_regions, off_roots, one_space, stays_part, window_listed}
use Rattle.settle_laws.proofs.PartClasses.{by_tests, by_windows, space_of_class}
use Rattle.settle_laws.proofs.Untold.{no_regions, none_kept_off}
use Rattle.settle_laws.proofs.Zipped.{BothOrNone, find_zip}
use Rattle.settle_laws.specs.Switching.{EnabledIsUncut, IsStandingSystem, IsSwitched, SwitchedStands}
use Rattle.settle_laws.proofs.Switched.{open_same, range_same, switched_alike, switched_moves}
use Rattle.settle_laws.proofs.NonePasses.{none_by}

module _ (q : Request) (s t : System) (pairs : AllZip IsSwitched s t) where
  alikes : AllZip IsAlike s t
  alikes = zip_by IsSwitched IsAlike s t (λ f g listed h. switched_alike f g h) pairs

  moves : AllZip IsMoved s t
  moves = zip_by IsSwitched IsMoved s t (λ f g listed h. switched_moves f g h) pairs

  -- the bridges over a bus, in both
  over_both : (bus : ℕ) → BothOrNone IsSwitched (bridge_over s bus) (bridge_over t bus)
  over_both bus = find_zip IsSwitched (λ b. is_bridge b && secondary b == bus) (λ b. is_bridge b && secondary b == bus)
      (λ f g h. let is = switched_alike f g h in of_bridges f g is (secondary f == bus) (secondary g == bus) (λ bridge. ap (λ n. n == bus) (is.secondary bridge))) s t pairs

  held_same : (c : WindowKind) (r : Range) (o u : Option Function) → BothOrNone IsSwitched o u → holds_range c r o ≡ holds_range c r u
  held_same c r None None both = refl
  held_same c r None (Some d) both = absurd both
  held_same c r (Some b) None both = absurd both
  held_same c r (Some b) (Some d) h = (let opened = open_same b d h c in let range = range_same b d h (Window c) in λ i. opened i && lies_within r (range i))

  window_same : (c : WindowKind) (r : Range) (o u : Option Function) → BothOrNone IsSwitched o u → is_in_window (looked_at q s) c r o ≡ is_in_window (looked_at q t) c r u
  window_same c r None None both = refl
  window_same c r None (Some d) both = absurd both
  window_same c r (Some b) None both = absurd both
  window_same c r (Some b) (Some d) h = (let opened = open_same b d h c in let range = range_same b d h (Window c) in λ i. lies_within r (range i) && opened i)

  module _ (f g : Function) (h : IsSwitched f g) where
    is : IsAlike f g
    is = switched_alike f g h

    bus_same : f.slot.bus ≡ g.slot.bus
    bus_same = bus_alike f g is

    part_same : (p : Part) → is_part q s f p ≡ is_part q t g p
    part_same (Bar n) = part_alike q s t alikes f g is (Bar n) refl
    part_same Rom = part_alike q s t alikes f g is Rom refl
    part_same (Window c) = open_same f g h c

    -- ---- classes

    served_same : (n : ℕ) → (not (is_empty q.lists.prefetch) && is_served s (upper_pools q.lists.prefetch) f n) ≡ (not (is_empty q.lists.prefetch) && is_served t (upper_pools q.lists.prefetch) g n)
    served_same n =
        let last = (upper_pools q.lists.prefetch).prefetch.last in
        let bus = bus_same in
        let probe = is.probe in
        let there = all_above q s t alikes (has_window PrefetchWindow) f.slot.bus ∙ ap (λ b. list_all (λ (d : Function). has_window PrefetchWindow d.probe) (bridges_above t b)) bus in
        let wide = all_above q s t alikes (is_wide_window PrefetchWindow) f.slot.bus ∙ ap (λ b. list_all (λ (d : Function). is_wide_window PrefetchWindow d.probe) (bridges_above t b)) bus in
        λ i. not (is_empty q.lists.prefetch) && (if nat_le last 0xffff_ffff then there i else is_wide (bar_at (probe i) n) && wide i)

    holds_same : (c : WindowKind) (n : ℕ) → holds_range c (range_of f (Bar n)) (bridge_over s f.slot.bus) ≡ holds_range c (range_of g (Bar n)) (bridge_over t g.slot.bus)
    holds_same c n =
        let range = range_same f g h (Bar n) in
        let bus = bus_same in
        held_same c (range_of f (Bar n)) (bridge_over s f.slot.bus) (bridge_over t f.slot.bus) (over_both f.slot.bus) ∙ (λ i. holds_range c (range i) (bridge_over t (bus i)))

    class_same : (p : Part) → class_in q s f p ≡ class_in q t g p
    class_same (Bar n) =
        let bus = bus_same in
        let probe = is.probe in
        let memory = holds_same MemoryWindow n in
        let held = holds_same PrefetchWindow n in
        let lacks = any_above q s t alikes (λ x. not (has_window PrefetchWindow x)) f.slot.bus ∙ ap (λ b. list_any (λ (d : Function). not (has_window PrefetchWindow d.probe)) (bridges_above t b)) bus in
        let served = served_same n in
        λ i. by_tests (is_io (bar_at (probe i) n)) (is_prefetchable (bar_at (probe i) n)) (by_windows (q.anew || is_root q.roots (bus i)) (memory i) (held i && not (lacks i)) (served i))
    class_same Rom = refl
    class_same (Window c) = refl

    -- ---- places

    place_same : (p : Part) → is_in_place q s (looked_at q s) record { function = f; part = p } ≡ is_in_place q t (looked_at q t) record { function = g; part = p }
    place_same p =
        let bus = bus_same in
        let range = range_same f g h p in
        let space = space_alike f g is p in
        let class = class_same p in
        let window : is_in_window (looked_at q s) (class_in q s f p) (range_of f p) (bridge_over s f.slot.bus) ≡ is_in_window (looked_at q t) (class_in q t g p) (range_of g p) (bridge_over t g.slot.bus) =
        window_same (class_in q s f p) (range_of f p) (bridge_over s f.slot.bus) (bridge_over t f.slot.bus) (over_both f.slot.bus) ∙ (λ i. is_in_window (looked_at q t) (class i) (range i) (bridge_over t (bus i))) in
        λ i. if is_root q.roots (bus i) then is_in_lists q (bus i) (range i) (space i) else window i

  module _ (untold : q.told.ranges ≡ []) (standing : IsStandingSystem q s) where
    -- a part as it was
    record WasPart (u : FunctionPart) : Type 0 where
      f : Function
      switched : IsSwitched f u.function
      listed : Contains (system_parts q s) record { function = f; part = u.part }

    was : (u : FunctionPart) → Contains (system_parts q t) u → WasPart u
    was u in_u =
        let at = looked q t u in_u in
        let found = member_back IsSwitched s t pairs u.function at.listed in
        let f = found.0 in
        let h : IsSwitched f u.function = found.2 in
        record {
          f = f;
          switched = h;
          listed = in_regions q s f u.part found.1 (subst (λ ps. Contains ps u.part) (sym (header_alike f u.function (switched_alike f u.function h))) at.there) (part_same f u.function h u.part ∙ at.part);
        }

    -- ---- it was in its place

    kept_by : (r : FunctionPart) → Contains (system_parts q s) r → q.anew ≡ false
    kept_by r in_r =
        let place = is_in_place q s (stands q s) r in
        let free = list_all (λ u. not (takes_from q s u r && stands q s u)) (system_parts q s) in
        let off = not (is_kept_off q s r) in
        let can = leads_to_told q s r || not q.anew in
        let four = and_parts (off && can && is_part q s r.function r.part && place) free (sym (stands_is q s standing.nested r in_r) ∙ standing.stand r in_r) in
        let three = and_parts (off && can && is_part q s r.function r.part) place four.0 in
        let two = and_parts (off && can) (is_part q s r.function r.part) three.0 in
        not-true q.anew (sym (ap (λ xs. list_any (leads_to_range q s r) xs || not q.anew) (no_regions q untold)) ∙ (and_parts off can two.0).1)

    was_in_place : (r : FunctionPart) → Contains (system_parts q s) r → is_in_place q s (looked_at q s) r ≡ true
    was_in_place r in_r =
        let f = r.function in
        let c = class_in q s f r.part in
        let lists = is_in_lists q f.slot.bus (addresses r) (part_space r) in
        elim (root_or_led q.roots s standing.system standing.nested f (looked q s r in_r).listed) [
          | inl root ↦
              let is_one = (root_means q.roots f.slot.bus).1 root in
              ap (λ b. cond b lists (is_in_window (looked_at q s) c (addresses r) (bridge_over s f.slot.bus))) is_one ∙ in_root_lists q s standing.nested r in_r (standing.stand r in_r) is_one
          | inr (b, leader) ↦
              let leads : LeadsTo s b f.slot.bus = (leader.listed, leader.bridge, leader.leads) in
              let off : is_root q.roots f.slot.bus ≡ false = subst (λ n. is_root q.roots n ≡ false) leader.leads (off_roots q s standing.system standing.nested b leader.listed leader.bridge) in
              let above = in_window_over q s standing.nested r in_r (standing.stand r in_r) b standing.system off leads in
              ap (λ x. cond x lists (is_in_window (looked_at q s) c (addresses r) (bridge_over s f.slot.bus))) off
              ∙ ap (is_in_window (looked_at q s) c (addresses r)) (over_is q.roots s standing.system standing.nested f.slot.bus b leads)
              ∙ and_from (lies_within (addresses r) (addresses (window_part c b))) (looked_at q s (window_part c b)) above.0
              ((stands_by_itself q s standing.nested).only (window_part c b) leader.listed above.1)
        ]

    -- ---- so it is

    system : IsSystem t
    system = moved_is_system s t moves standing.system

    nested : IsNested q.roots t
    nested = moved_is_nested q.roots s t moves standing.system standing.nested

    in_place : (u : FunctionPart) → Contains (system_parts q t) u → is_in_place q t (looked_at q t) u ≡ true
    in_place u in_u = let w = was u in_u in sym (place_same w.f u.function w.switched u.part) ∙ was_in_place record { function = w.f; part = u.part } w.listed

    two_apart : (u v : FunctionPart) → Contains (system_parts q t) u → Contains (system_parts q t) v → are_beside q u v ≡ true → (rank u ≡ rank v → ⊥) → ranges_are_apart (addresses u) (addresses v) ≡ true
    two_apart u v in_u in_v beside differ =
        let x = was u in_u in
        let y = was v in_v in
        let r : FunctionPart = record { function = x.f; part = u.part } in
        let w : FunctionPart = record { function = y.f; part = v.part } in
        let is_x = switched_alike x.f u.function x.switched in
        let is_y = switched_alike y.f v.function y.switched in
        let bus_x = bus_alike x.f u.function is_x in
        let bus_y = bus_alike y.f v.function is_y in
        let space_x = space_alike x.f u.function is_x u.part in
        let space_y = space_alike y.f v.function is_y v.part in
        let range_x = range_same x.f u.function x.switched u.part in
        let range_y = range_same y.f v.function y.switched v.part in
        let rank_x = rank_alike x.f u.function is_x u.part in
        let rank_y = rank_alike y.f v.function is_y v.part in
        let same : are_beside q r w ≡ are_beside q u v = (λ i. are_siblings q.roots (bus_x i) (bus_y i) && are_same_space (space_x i) (space_y i)) in
        sym (λ i. ranges_are_apart (range_x i) (range_y i))
        ∙ apart_where_beside q s r w standing.nested x.listed y.listed (standing.stand r x.listed) (standing.stand w y.listed) (same ∙ beside) (λ e. differ (sym rank_x ∙ e ∙ rank_y))

    pub still_stands : IsStandingSystem q t
    still_stands = record {
      system = system;
      nested = nested;
      profile = moved_is_in_profile q.roots s t moves standing.system standing.chains standing.profile;
      chains = moved_has_chains s t moves standing.system standing.chains;
      stand = λ u in_u. let w = was u in_u in all_in_place q t system nested (kept_by record { function = w.f; part = u.part } w.listed) (λ v in_v. none_kept_off q untold t v) in_place two_apart u in_u;
    }

-- The law: each part still stands.
pub switched_stands : SwitchedStands
switched_stands q untold s t standing pairs = still_stands q s t pairs untold standing

-- ---- where all parts are enabled

-- a told range is of the space of its class
space_by : (space : Space) (prefetchable low : Bool) → window_space (class_in_space space (if prefetchable then if low then MemoryWindow else PrefetchWindow else MemoryWindow)) ≡ space
space_by Io prefetchable low = refl
space_by Memory true true = refl
space_by Memory true false = refl
space_by Memory false low = refl

space_of_range : (q : Request) (s : System) (x : ToldRegion) → window_space (range_class q s x) ≡ x.told.space
space_of_range q s x = space_by x.told.space x.told.prefetchable (is_root q.roots (line_bus x) || holds_range MemoryWindow (line_range x) (bridge_over s (line_bus x)))

module _ (q : Request) (s : System) (standing : IsStandingSystem q s) (on : (r : FunctionPart) → Contains (system_parts q s) r → is_space_on r.function (part_space r) ≡ true) where
  -- bridges above a part are enabled for their windows
  above_on : (r : FunctionPart) → Contains (system_parts q s) r → (b : Function) → Contains (bridges_above s r.function.slot.bus) b → is_space_on b (part_space r) ≡ true
  above_on r in_r b above =
      let c = class_in q s r.function r.part in
      let in_b = (above_to s r.function.slot.bus b above).listed in
      let keeps = above_stays q s standing.system standing.nested r b (all_stay q s standing.system standing.nested standing.stand r in_r) above in
      let over = in_regions q s b (Window c) in_b (window_of b c) (stays_part q s standing.system standing.nested (window_part c b) in_b keeps) in
      subst (λ sp. is_space_on b sp ≡ true) (space_of_class q s r.function r.part) (on (window_part c b) over)

  -- so are those above a told range that stands
  bridges_on : (x : ToldRegion) → range_stands q s x ≡ true → are_bridges_on s x.told.space (line_bus x) ≡ true
  bridges_on x stand = elim (ranges_stand_in_place q s x stand).in_place [
    | inl root ↦ all_above_root q.roots s standing.system standing.nested (λ b. is_space_on b x.told.space) (line_bus x) ((root_means q.roots (line_bus x)).0 root)
    | inr window ↦
        let d = window.b in
        let c = range_class q s x in
        let sp = window_space c in
        let leads : LeadsTo s d (line_bus x) = over_leads s (line_bus x) d window.over in
        let over = window_listed q s standing.system standing.nested d leads.0 leads.1 c window.stands in
        let own : are_bridges_on s sp d.slot.bus ≡ true = all_from (λ b. is_space_on b sp) (bridges_above s d.slot.bus) (λ b above. above_on (window_part c d) over b above) in
        subst (λ y. are_bridges_on s y (line_bus x) ≡ true) (space_of_range q s x)
        (subst (λ bus. are_bridges_on s sp bus ≡ true) leads.2
        (all_over q.roots s standing.system standing.nested (λ b. is_space_on b sp) d leads.0 leads.1
        ∙ and_from (are_bridges_on s sp d.slot.bus) (is_space_on d sp) own (on (window_part c d) over)))
  ]

  -- and those above what has something of a space to answer
  own_on : (f : Function) (space : Space) → Contains s f → has_own q s space f ≡ true → are_bridges_on s space f.slot.bus ≡ true
  own_on f space listed own =
      let test = λ (r : FunctionPart). are_same_space space (part_space r) && not (is_window r.part) in
      elim (or_cases (list_any (is_answered_by q s space f) (told_regions q.told)) (list_any test (function_parts q s f)) own) [
        | inl told ↦
            let found : Passes (is_answered_by q s space f) (told_regions q.told) = any_gives (is_answered_by q s space f) (told_regions q.told) told in
            let x = found.x in
            let three = and_parts (is_command_line x && same_slot x.told.slot f.slot && are_same_space space x.told.space) (range_stands q s x) found.is in
            let two = and_parts (is_command_line x && same_slot x.told.slot f.slot) (are_same_space space x.told.space) three.0 in
            let slot = slots_same x.told.slot f.slot (and_parts (is_command_line x) (same_slot x.told.slot f.slot) two.0).1 in
            subst (λ y. are_bridges_on s y f.slot.bus ≡ true) (sym (one_space space x.told.space two.1))
            (subst (λ (y : Slot). are_bridges_on s x.told.space y.bus ≡ true) slot (bridges_on x three.1))
        | inr part ↦
            let found : Passes test (function_parts q s f) = any_gives test (function_parts q s f) part in
            let r = found.x in
            let in_r = in_flat_map_from (function_parts q s) s f r listed found.listed in
            let made : IsMade (λ p. record { function = f; part = p }) (parts_of q s f) r = in_map_to (λ p. record { function = f; part = p }) (parts_of q s f) r found.listed in
            let at : r.function ≡ f = ap (λ (x : FunctionPart). x.function) (sym made.is) in
            let is_space = one_space space (part_space r) (and_parts (are_same_space space (part_space r)) (not (is_window r.part)) found.is).0 in
            all_from (λ b. is_space_on b space) (bridges_above s f.slot.bus) (λ b above.
            subst (λ sp. is_space_on b sp ≡ true) (sym is_space) (above_on r in_r b (subst (λ (x : Function). Contains (bridges_above s x.slot.bus) b) (sym at) above)))
      ]

  uncut : (f : Function) (space : Space) → Contains s f → is_cut_off_in q s f space ≡ false
  uncut f space listed = elim (cases_Bool (is_space_on f space && has_own q s space f)) [
    | inr idle ↦ ap (λ b. b && list_any (λ b. not (is_space_on b space)) (bridges_above s f.slot.bus)) idle
    | inl both ↦
        let all = own_on f space listed (and_parts (is_space_on f space) (has_own q s space f) both).1 in
        ap (λ b. b && list_any (λ b. not (is_space_on b space)) (bridges_above s f.slot.bus)) both
        ∙ none_by (λ b. not (is_space_on b space)) (bridges_above s f.slot.bus) (λ b above.
        not_from_true (is_space_on b space) (all_gives (λ b. is_space_on b space) (bridges_above s f.slot.bus) all b above))
  ]

-- The law: nothing is cut off.
pub enabled_is_uncut : EnabledIsUncut
enabled_is_uncut q s standing on off = record { left = off; above = uncut q s standing on }
