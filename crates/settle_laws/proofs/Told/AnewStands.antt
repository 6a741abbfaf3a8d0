-- A told range that stands is in its place in the result, where all else was placed anew, too: the windows over it stand.
use Rattle.std.proofs.Common.{◌≡◌, ◌≢◌, ℕ, zero, suc, ◌<◌, ◌≤◌, inl, inr, Bool, true, false, cond, ◌&&◌, ◌||◌, not, arith, refl, sym, ◌∙◌, ap, subst, Option}
use Rattle.std.specs.List.{Contains, list_all}
use Rattle.std.proofs.lemmas.Bool.{and_from, and_parts, both_ways, cases_Bool, false_from_ne_true, not-true, not_from_false, or_left, or_right}
use Rattle.pci_spec.specs.Window.{WindowKind}
use Rattle.pci_spec.specs.System.{System, Function, IsSystem, Window, is_bridge, is_space_on}
use Rattle.pci_spec.specs.Bus.{is_behind, is_root, IsNested, LeadsTo}
use Rattle.pci_spec.proofs.BusRanges.{all_from, all_gives, any_from, root_means}
use Rattle.pci_spec.proofs.Members.{IsMade, in_map_from, in_map_to}
use Rattle.plan_spec.specs.Plan.{bridges_above, is_open, same_class}
use Rattle.plan_spec.specs.Planning.Layout.{range_of}
use Rattle.plan_spec.proofs.Planning.AboveBuses.{above_from, above_to, root_or_led}
use Rattle.plan_spec.proofs.Planning.Safe.{order_of}
use Rattle.judge_spec.specs.ToldRegion.{ToldRegion, told_regions}
use Rattle.settle_spec.specs.FirstPlace.{ranges_are_apart}
use Rattle.settle_spec.specs.Kept.{Kept}
use Rattle.settle_spec.specs.Lines.{line_bus, line_range, is_held_line, is_always_line}
use Rattle.settle_spec.specs.Lists.{Request}
use Rattle.settle_spec.specs.Parts.{FunctionPart, system_parts, addresses, is_part, lies_within, bridge_over}
use Rattle.settle_spec.specs.Stands.{rank, part_space, are_beside, told_part_precedes, is_in_lists, is_in_window, is_in_place, window_part, range_class, leads_by, leads_to_range, leads_to_told, is_kept_off, takes_from, are_bridges_on, is_range_in_place, range_stands, stands}
use Rattle.settle_spec.specs.ToldLaws.{IsInStandingWindow}
use Rattle.settle_spec.specs.Keeping.Registers.{settled, settled_function}
use Rattle.settle_spec.proofs.BridgeOver.{over_leads}
use Rattle.settle_spec.proofs.Nested.{at_secondary, behind_outer}
use Rattle.settle_spec.proofs.ToldStanding.{ranges_stand_in_place}
use Rattle.settle_laws.proofs.Apart.{apart_where_beside, in_root_lists, in_window_over}
use Rattle.settle_laws.proofs.Order.{precedes_itself}
use Rattle.settle_laws.proofs.Standing.{stands_is}
use Rattle.settle_laws.proofs.There.{class_itself}
use Rattle.settle_laws.proofs.StandingTold.Untold.{one_of_rank}
use Rattle.settle_laws.proofs.Alike.{behind_alike}
use Rattle.settle_laws.proofs.HeaderParts.{window_of}
use Rattle.settle_laws.proofs.Keeping.Again.{settled_alike}
use Rattle.settle_laws.proofs.Keeping.AgainKept.{stand_off}
use Rattle.settle_laws.proofs.Keeping.Claimed.{bridge_stays, ends_open}
use Rattle.settle_laws.proofs.Keeping.Moves.{new_nested, new_system}
use Rattle.settle_laws.proofs.Kept.{in_regions, off_roots}
use Rattle.settle_laws.specs.StandingTold.Kept.{LinesAreForward}
use Rattle.settle_laws.specs.Keeping.PlacesLaws.{CanSettle}
use Rattle.settle_laws.specs.ToldSoundLaws.{KeepsTold}
use Rattle.settle_laws.proofs.Told.AgainLines.{not_kept_off, space_stays}
use Rattle.settle_laws.proofs.Told.AgainWindows.{HasStayed, has_stayed, over_again, over_holds, over_is_now, class_again, within_through}
use Rattle.settle_laws.proofs.Told.Reached.{IsAroundRange, range_above, always_on, range_unleft}

module _ (q : Request) (s : System) (k : Kept) (can : CanSettle q s k) (keeps : KeepsTold q s k) (forward : LinesAreForward q) where
  abbrev kq : Request
  kq = record q { anew = false }

  abbrev now : Function → Function
  now f = settled_function q s k f

  abbrev t : System
  t = settled q s k

  system_t : IsSystem t
  system_t = new_system q s k can

  nested_t : IsNested q.roots t
  nested_t = new_nested q s k can

  kept_off : (r : FunctionPart) → Contains (system_parts q t) r → is_kept_off q t r ≡ false
  kept_off = not_kept_off q s k can keeps forward

  -- each part stands for a request that keeps what stands
  stand : (r : FunctionPart) → Contains (system_parts q t) r → stands kq t r ≡ true
  stand = stand_off q s k can q.fixed kept_off

  -- so none takes an address of another
  none_takes : (u r : FunctionPart) → Contains (system_parts q t) u → Contains (system_parts q t) r → takes_from q t u r ≡ false
  none_takes u r in_u in_r = false_from_ne_true (takes_from q t u r) (λ takes.
      let two = and_parts (are_beside q u r && told_part_precedes q t u r) (not (ranges_are_apart (addresses u) (addresses r))) takes in
      let one = and_parts (are_beside q u r) (told_part_precedes q t u r) two.0 in
      let differ : rank u ≢ rank r = λ same.
      both_ways (told_part_precedes q t u u) (precedes_itself q t u) (subst (λ v. told_part_precedes q t u v ≡ true) (sym (one_of_rank q t system_t u r in_u in_r same)) one.1) in
      both_ways (ranges_are_apart (addresses u) (addresses r)) (not-true (ranges_are_apart (addresses u) (addresses r)) two.1)
      (apart_where_beside kq t u r nested_t in_u in_r (stand u in_u) (stand r in_r) one.0 differ))

  -- what leads to a told range stands where it is in its place
  leading_stands : (r : FunctionPart) → Contains (system_parts q t) r → is_part q t r.function r.part ≡ true → leads_to_told q t r ≡ true → is_in_place q t (stands q t) r ≡ true → stands q t r ≡ true
  leading_stands r listed part leads place =
      let free = not (is_kept_off q t r) in
      let led = leads_to_told q t r || not q.anew in
      let test = λ (u : FunctionPart). not (takes_from q t u r && stands q t u) in
      stands_is q t nested_t r listed
      ∙ and_from (free && led && is_part q t r.function r.part && is_in_place q t (stands q t) r) (list_all test (system_parts q t))
      (and_from (free && led && is_part q t r.function r.part) (is_in_place q t (stands q t) r)
      (and_from (free && led) (is_part q t r.function r.part)
      (and_from free led (not_from_false (is_kept_off q t r) (kept_off r listed)) (or_left (leads_to_told q t r) (not q.anew) leads)) part) place)
      (all_from test (system_parts q t) (λ u in_u. not_from_false (takes_from q t u r && stands q t u) (ap (λ b. b && stands q t u) (none_takes u r in_u listed))))

  module _ (x : ToldRegion) (is_told : Contains (told_regions q.told) x) (stood : range_stands q s x ≡ true) where
    told : is_held_line x ≡ false
    told = (ranges_stand_in_place q s x stood).not_held

    some : x.told.first ≤ x.told.last
    some = forward x is_told

    -- ---- bridges above are on

    bridges_on : is_always_line x ≡ true → are_bridges_on t x.told.space (line_bus x) ≡ true
    bridges_on always = all_from (λ b. is_space_on b x.told.space) (bridges_above t (line_bus x)) (λ g above.
        let is = above_to t (line_bus x) g above in
        let made : IsMade now s g = in_map_to now s g is.listed in
        let b = made.from in
        let bridge : is_bridge b ≡ true = sym (bridge_stays q s k can b made.has) ∙ ap is_bridge made.is ∙ is.bridge in
        let in_s = above_from s (line_bus x) b record {
          listed = made.has;
          bridge = bridge;
          behind = behind_alike b (now b) (settled_alike q s k can b made.has) bridge (line_bus x) ∙ subst (λ h. is_behind h (line_bus x) ≡ true) (sym made.is) is.behind;
        } in
        let f : Function = record { slot = x.told.slot; image = b.image; probe = b.probe } in
        subst (λ h. is_space_on h x.told.space ≡ true) made.is
        (space_stays q s k can keeps b made.has x.told.space
        (λ io. range_unleft q s can.system can.nested f x stood io refl b in_s)
        (always_on q s can.system can.nested x stood always b in_s)))

    -- ---- windows above stand

    module _ (w : IsInStandingWindow q s x) where
      abbrev c : WindowKind
      c = range_class q s x

      class_is : range_class q t x ≡ c
      class_is = class_again q s k can keeps x is_told some stood w

      module _ (b : Function) (above : Contains (bridges_above s (line_bus x)) b) where
        in_b : Contains s b
        in_b = (above_to s (line_bus x) b above).listed

        bridge_b : is_bridge b ≡ true
        bridge_b = (above_to s (line_bus x) b above).bridge

        around : IsAroundRange q s can.system can.nested (line_range x) c b
        around = range_above q s can.system can.nested x stood b above

        stayed : HasStayed q s k can b (Window c)
        stayed = has_stayed q s k can b (Window c) in_b bridge_b
            (all_gives (λ d. k.stays (window_part c d)) (bridges_above s (line_bus x)) (and_parts (range_stands q s x) _ (keeps.stays x is_told stood)).1 b above)

        opened : is_open (now b) c ≡ true
        opened = ends_open q s k can b c in_b bridge_b stayed.at stayed.ends

        in_t : Contains (system_parts q t) (window_part c (now b))
        in_t = in_regions q t (now b) (Window c) (in_map_from now s b in_b) (window_of (now b) c) opened

        leads_to_it : leads_to_told q t (window_part c (now b)) ≡ true
        leads_to_it = any_from (leads_to_range q t (window_part c (now b))) (told_regions q.told) x is_told
            (and_from (not (is_held_line x) && is_bridge (now b) && is_behind (now b) (line_bus x)) (leads_by q t (now b) (Window c) x)
            (and_from (not (is_held_line x) && is_bridge (now b)) (is_behind (now b) (line_bus x))
            (and_from (not (is_held_line x)) (is_bridge (now b)) (not_from_false (is_held_line x) told) (bridge_stays q s k can b in_b ∙ bridge_b))
            (sym (behind_alike b (now b) (settled_alike q s k can b in_b) bridge_b (line_bus x)) ∙ (above_to s (line_bus x) b above).behind))
            (and_from (same_class c (range_class q t x) && is_open (now b) c) (lies_within (line_range x) (range_of (now b) (Window c)))
            (and_from (same_class c (range_class q t x)) (is_open (now b) c) (ap (same_class c) class_is ∙ class_itself c) opened)
            (within_through (line_range x) (addresses (window_part c b)) (range_of (now b) (Window c)) around.within
            (subst (λ r. lies_within (addresses (window_part c b)) r ≡ true) (sym stayed.shown) stayed.holds))))

      window_stands : (n : ℕ) (b : Function) → Contains (bridges_above s (line_bus x)) b → b.slot.bus < n → stands q t (window_part c (now b)) ≡ true
      window_stands zero b above less = absurd (let no : ⊥ = omega (arith, less) in no)
      window_stands (suc n) b above less = leading_stands r (in_t b above) (opened b above) (leads_to_it b above) (elim (root_or_led q.roots s can.system can.nested b (in_b b above)) [
        | inl root ↦
            let is_one = (root_means q.roots b.slot.bus).1 root in
            ap (λ o. cond o lists (in_window_of (bridge_over t b.slot.bus))) is_one
            ∙ in_root_lists kq t nested_t r (in_t b above) (stand r (in_t b above)) is_one
        | inr (d, leader) ↦
            let leads : LeadsTo s d b.slot.bus = (leader.listed, leader.bridge, leader.leads) in
            let off : is_root q.roots b.slot.bus ≡ false = subst (λ m. is_root q.roots m ≡ false) leader.leads (off_roots q s can.system can.nested d leader.listed leader.bridge) in
            let above_d = above_from s (line_bus x) d record {
              listed = leader.listed;
              bridge = leader.bridge;
              behind = behind_outer q.roots s can.system can.nested b d (line_bus x) (in_b b above) leader.listed (bridge_b b above) leader.bridge
                  (at_secondary q.roots s can.system can.nested d b.slot.bus leader.listed leader.bridge leader.leads) (above_to s (line_bus x) b above).behind;
            } in
            let up = order_of q.roots s can.nested d leader.listed leader.bridge in
            let to = leader.leads in
            let over_is = over_again q s k can b.slot.bus d leads in
            let inside = (in_window_over kq t nested_t r (in_t b above) (stand r (in_t b above)) (now d) system_t off (over_leads t b.slot.bus (now d) over_is)).0 in
            ap (λ o. cond o lists (in_window_of (bridge_over t b.slot.bus))) off
            ∙ ap in_window_of over_is
            ∙ and_from (lies_within (addresses r) (addresses (window_part c (now d)))) (stands q t (window_part c (now d))) inside
            (window_stands n d above_d (omega (arith, less, up, to)))
      ])
        where
          r : FunctionPart
          r = window_part c (now b)

          lists : Bool
          lists = is_in_lists q b.slot.bus (addresses r) (part_space r)

          in_window_of : Option Function → Bool
          in_window_of o = is_in_window (stands q t) c (addresses r) o

    -- ---- it is in its place

    pub in_place_anew : is_range_in_place q t (stands q t) x ≡ true
    in_place_anew = elim (ranges_stand_in_place q s x stood).in_place [
      | inl root ↦ or_left (is_root q.roots (line_bus x)) _ root
      | inr w ↦
          let class = range_class q s x in
          let leads = over_leads s (line_bus x) w.b w.over in
          let above = above_from s (line_bus x) w.b record { listed = leads.0; bridge = leads.1; behind = at_secondary q.roots s can.system can.nested w.b (line_bus x) leads.0 leads.1 leads.2 } in
          let over = window_part class (now w.b) in
          let window : is_in_window (stands q t) (range_class q t x) (line_range x) (bridge_over t (line_bus x)) ≡ true =
          ap (λ d. is_in_window (stands q t) d (line_range x) (bridge_over t (line_bus x))) (class_is w)
          ∙ ap (is_in_window (stands q t) class (line_range x)) (over_is_now q s k can keeps x is_told some stood w)
          ∙ and_from (lies_within (line_range x) (range_of (now w.b) (Window class))) (stands q t over) (over_holds q s k can keeps x is_told some stood w)
          (window_stands w (suc w.b.slot.bus) w.b above (omega arith)) in
          or_right (is_root q.roots (line_bus x)) _
          (and_from (is_in_window (stands q t) (range_class q t x) (line_range x) (bridge_over t (line_bus x))) (not (is_always_line x) || are_bridges_on t x.told.space (line_bus x)) window
          (elim (cases_Bool (is_always_line x)) [
            | inr never ↦ or_left (not (is_always_line x)) (are_bridges_on t x.told.space (line_bus x)) (not_from_false (is_always_line x) never)
            | inl always ↦ or_right (not (is_always_line x)) (are_bridges_on t x.told.space (line_bus x)) (bridges_on always)
          ]))
    ]
