-- The reach of a window is pages around it, in the reach of the window above it, off what stands beside it.
use Rattle.std.proofs.Common.{◌≡◌, ◌≢◌, ℕ, zero, suc, ◌<◌, inl, inr, Option, None, Some, Bool, true, false, ◌&&◌, not, arith, ap, sym, subst, ◌∙◌, refl}
use Rattle.std.specs.Bool.{◌==◌, if◌then◌else◌}
use Rattle.std.specs.List.{Contains, filter, find}
use Rattle.std.specs.Option.{is_some}
use Rattle.std.proofs.lemmas.Bool.{cases_Bool, false≢true, and_parts, eq-eqb}
use Rattle.pci_spec.specs.Window.{WindowKind}
use Rattle.pci_spec.specs.Decoded.{Range}
use Rattle.pci_spec.specs.System.{System, Function, IsSystem}
use Rattle.pci_spec.specs.Bus.{is_root, IsNested, LeadsTo}
use Rattle.pci_spec.proofs.Members.{IsMade, in_map_to, in_filter_to}
use Rattle.plan_spec.proofs.Planning.Safe.{slots_of, order_of}
use Rattle.settle_spec.specs.FirstPlace.{ranges_are_apart}
use Rattle.settle_spec.specs.Lists.{Request}
use Rattle.settle_spec.specs.Parts.{FunctionPart, system_parts, addresses, bridge_over, lies_within}
use Rattle.settle_spec.specs.Stands.{is_fixed_part, rank, are_beside, window_part, stands}
use Rattle.settle_spec.specs.Reach.{standing_beside, root_window_ranges, range_over, room_around, reach_in, reach_if, reach_within, reach}
use Rattle.settle_spec.specs.GrowthLaws.{CanReach}
use Rattle.settle_spec.proofs.BridgeOver.{found, over_leads, over_is}
use Rattle.settle_spec.proofs.Reaching.{LiesIn, lies_in_trans, within_gives, within_from, window_first, window_last, reach_is_around, reach_is_off}
use Rattle.settle_laws.specs.Reach.{WindowsAreLow, IsStandingWindow}
use Rattle.settle_laws.proofs.Standing.{part_of, window_listed, stands_by_itself}
use Rattle.settle_laws.proofs.Apart.{in_window_over, apart_where_beside}

-- ---- one step

reach_zero : (q : Request) (s : System) (c : WindowKind) (b : Function) → reach_within q s c 0 b ≡ addresses (window_part c b)
unfolding reach_within
reach_zero q s c b = refl

reach_next : (q : Request) (s : System) (c : WindowKind) (depth : ℕ) (b : Function) → reach_within q s c (suc depth) b ≡ reach_if q s c b (room_around q s c (reach_within q s c depth) b)
unfolding reach_within
reach_next q s c depth b = refl

pub some_is : {X : Type 0} (x y : X) → Some x ≡ Some y → x ≡ y
some_is x y e = cc

module _ (q : Request) (s : System) (c : WindowKind) (nested : IsNested q.roots s) where
  abbrev pub Stands : Function → Type 0
  Stands b = IsStandingWindow q s c b

  own_reach : (b : Function) → CanReach c (addresses (window_part c b)) (addresses (window_part c b))
  own_reach b = record {
    first = omega arith;
    last = omega arith;
    first_page = window_first c b;
    last_page = window_last c b;
    first_half = omega arith;
    last_half = omega arith;
  }

  -- what stands beside a window is apart from it
  pub apart_beside : (b : Function) → Stands b → (t : Range) → Contains (standing_beside q s (window_part c b)) t → ranges_are_apart (addresses (window_part c b)) t ≡ true
  apart_beside b is t has =
      let w = window_part c b in
      let made : IsMade addresses (filter (λ u. are_beside q w u && not (rank u == rank w) && stands q s u) (system_parts q s)) t =
      in_map_to addresses (filter (λ u. are_beside q w u && not (rank u == rank w) && stands q s u) (system_parts q s)) t has in
      let u = made.from in
      let kept = in_filter_to (λ u. are_beside q w u && not (rank u == rank w) && stands q s u) (system_parts q s) u made.has in
      let outer = and_parts (are_beside q w u && not (rank u == rank w)) (stands q s u) kept.1 in
      let inner = and_parts (are_beside q w u) (not (rank u == rank w)) outer.0 in
      subst (λ x. ranges_are_apart (addresses w) x ≡ true) made.is
      (apart_where_beside q s w u nested is.part kept.0 is.stands outer.1 inner.0
      (λ same. false≢true (sym (ap not (eq-eqb (rank u) (rank w) (sym same))) ∙ inner.1)))

  pub reaches_are_off : (b : Function) (t : FunctionPart) → Stands b → Contains (system_parts q s) t → stands q s t ≡ true → are_beside q (window_part c b) t ≡ true → rank t ≢ rank (window_part c b)
      → ranges_are_apart (reach q s c b) (addresses t) ≡ true
  reaches_are_off b t is listed stand beside differ =
      reach_is_off q s c b t listed beside differ stand
      (apart_where_beside q s (window_part c b) t nested is.part listed is.stands stand beside (λ same. differ (sym same)))

  module _ (system : IsSystem s) where
    -- the window above a window that stands does so too, and holds it
    pub record IsAbove (b over : Function) : Type 0 where
      pub stands : Stands over
      pub holds : LiesIn (addresses (window_part c b)) (addresses (window_part c over))

    pub above : (b over : Function) → Stands b → is_root q.roots b.slot.bus ≡ false → LeadsTo s over b.slot.bus → IsAbove b over
    above b over is off leads =
        let lies = in_window_over q s nested (window_part c b) is.part is.stands over system off leads in
        let part = (stands_by_itself q s nested).only (window_part c over) leads.0 lies.1 in
        record {
          stands = record { part = window_listed q s c over leads.0 part; stands = lies.1 };
          holds = within_gives (addresses (window_part c b)) (addresses (window_part c over)) lies.0;
        }

    -- ---- what a window is in

    -- a reach that is right for all windows that stand
    abbrev pub IsAround : (Function → Range) → Type 0
    IsAround f = (b : Function) → Stands b → CanReach c (addresses (window_part c b)) (f b)

    pub room_holds : (f : Function → Range) → IsAround f → (b : Function) → Stands b → (room : Range) → room_around q s c f b ≡ Some room → lies_within (addresses (window_part c b)) room ≡ true
    room_holds f around b is room e = elim (cases_Bool (is_root q.roots b.slot.bus)) [
      | inl root ↦
          let here = sym (ap (λ t. if t then find (lies_within (addresses (window_part c b))) (root_window_ranges q c b.slot.bus) else range_over f (bridge_over s b.slot.bus)) root) ∙ e in
          (found (lies_within (addresses (window_part c b))) (root_window_ranges q c b.slot.bus) room here).1
      | inr off ↦
          let here = sym (ap (λ t. if t then find (lies_within (addresses (window_part c b))) (root_window_ranges q c b.slot.bus) else range_over f (bridge_over s b.slot.bus)) off) ∙ e in
          behind off (bridge_over s b.slot.bus) refl here
    ]
      where
        behind : is_root q.roots b.slot.bus ≡ false → (o : Option Function) → bridge_over s b.slot.bus ≡ o → range_over f o ≡ Some room → lies_within (addresses (window_part c b)) room ≡ true
        behind off None over is_room = absurd (false≢true (ap is_some is_room))
        behind off (Some o) over is_room =
            let up = above b o is off (over_leads s b.slot.bus o over) in
            let can = around o up.stands in
            let first = can.first in
            let last = can.last in
            subst (λ r. lies_within (addresses (window_part c b)) r ≡ true) (some_is (f o) room is_room)
            (within_from (addresses (window_part c b)) (f o) (lies_in_trans (addresses (window_part c b)) (addresses (window_part c o)) (f o) up.holds (record { first = first; last = last })))

    module _ (low : WindowsAreLow q s) where
      pub in_system : (b : Function) → Stands b → Contains s b
      in_system b is = (part_of q s (window_part c b) is.part).listed

      of_room : (f : Function → Range) → IsAround f → (b : Function) → Stands b → (o : Option Range) → room_around q s c f b ≡ o → CanReach c (addresses (window_part c b)) (reach_if q s c b o)
      of_room f around b is None e = own_reach b
      of_room f around b is (Some room) e = by (is_fixed_part q (window_part c b))
        where
          by : (fixed : Bool) → CanReach c (addresses (window_part c b)) (if fixed then addresses (window_part c b) else reach_in q s c b room)
          by true = own_reach b
          by false = (reach_is_around q s c b room (room_holds f around b is room e) (low c b (in_system b is) is.stands) (apart_beside b is)).0

      pub reachable : (depth : ℕ) → IsAround (reach_within q s c depth)
      reachable zero b is = subst (CanReach c (addresses (window_part c b))) (sym (reach_zero q s c b)) (own_reach b)
      reachable (suc depth) b is =
          subst (CanReach c (addresses (window_part c b))) (sym (reach_next q s c depth b))
          (of_room (reach_within q s c depth) (reachable depth) b is (room_around q s c (reach_within q s c depth) b) refl)

      pub reaches_are_around : (b : Function) → Stands b → CanReach c (addresses (window_part c b)) (reach q s c b)
      reaches_are_around = reachable 256

      -- ---- as many buses as there are above one another are enough

      room_by : (f g : Function → Range) (b : Function) → ((o : Function) → o.slot.bus < b.slot.bus → f o ≡ g o) → room_around q s c f b ≡ room_around q s c g b
      room_by f g b same =
          ap (λ r. if is_root q.roots b.slot.bus then find (lies_within (addresses (window_part c b))) (root_window_ranges q c b.slot.bus) else r) (over_by (bridge_over s b.slot.bus) refl)
        where
          over_by : (o : Option Function) → bridge_over s b.slot.bus ≡ o → range_over f o ≡ range_over g o
          over_by None e = refl
          over_by (Some o) e =
              let leads = over_leads s b.slot.bus o e in
              let up = order_of q.roots s nested o leads.0 leads.1 in
              let to = leads.2 in
              ap Some (same o (omega (arith, up, to)))

      enough : (d e : ℕ) (b : Function) → b.slot.bus < d → b.slot.bus < e → reach_within q s c d b ≡ reach_within q s c e b
      enough zero e b hd he = absurd (let no : ⊥ = omega (arith, hd) in no)
      enough (suc d) zero b hd he = absurd (let no : ⊥ = omega (arith, he) in no)
      enough (suc d) (suc e) b hd he =
          reach_next q s c d b
          ∙ ap (reach_if q s c b) (room_by (reach_within q s c d) (reach_within q s c e) b (λ o under. enough d e o (omega (arith, under, hd)) (omega (arith, under, he))))
          ∙ sym (reach_next q s c e b)

      -- ---- in the reach of the window above

      in_above : (b over : Function) → Stands b → is_root q.roots b.slot.bus ≡ false → LeadsTo s over b.slot.bus → LiesIn (addresses (window_part c b)) (reach q s c over)
      in_above b over is off leads =
          let up = above b over is off leads in
          let can = reaches_are_around over up.stands in
          let first = can.first in
          let last = can.last in
          lies_in_trans (addresses (window_part c b)) (addresses (window_part c over)) (reach q s c over) up.holds (record { first = first; last = last })

      pub reaches_nest : (b over : Function) → Stands b → is_root q.roots b.slot.bus ≡ false → LeadsTo s over b.slot.bus → lies_within (reach q s c b) (reach q s c over) ≡ true
      reaches_nest b over is off leads =
          subst (λ r. lies_within r (reach q s c over) ≡ true) (sym (reach_next q s c 255 b))
          (by_room (room_around q s c (reach_within q s c 255) b) refl)
        where
          is_room : room_around q s c (reach_within q s c 255) b ≡ Some (reach_within q s c 255 over)
          is_room =
              ap (λ t. if t then find (lies_within (addresses (window_part c b))) (root_window_ranges q c b.slot.bus) else range_over (reach_within q s c 255) (bridge_over s b.slot.bus)) off
              ∙ ap (range_over (reach_within q s c 255)) (over_is q.roots s system nested b.slot.bus over leads)

          same : reach_within q s c 255 over ≡ reach q s c over
          same =
              let up = order_of q.roots s nested over leads.0 leads.1 in
              let to = leads.2 in
              let small = (slots_of s system b (in_system b is)).0 in
              enough 255 256 over (omega (arith, up, to, small)) (omega (arith, up, to, small))

          own_in : lies_within (addresses (window_part c b)) (reach q s c over) ≡ true
          own_in = within_from (addresses (window_part c b)) (reach q s c over) (in_above b over is off leads)

          by_room : (o : Option Range) → room_around q s c (reach_within q s c 255) b ≡ o → lies_within (reach_if q s c b o) (reach q s c over) ≡ true
          by_room None e = own_in
          by_room (Some room) e = by (is_fixed_part q (window_part c b))
            where
              here : room ≡ reach q s c over
              here = some_is room (reach_within q s c 255 over) (sym e ∙ is_room) ∙ same

              by : (fixed : Bool) → lies_within (if fixed then addresses (window_part c b) else reach_in q s c b room) (reach q s c over) ≡ true
              by true = own_in
              by false =
                  subst (λ r. lies_within (reach_in q s c b room) r ≡ true) here
                  (reach_is_around q s c b room (room_holds (reach_within q s c 255) (reachable 255) b is room e) (low c b (in_system b is) is.stands) (apart_beside b is)).1
