-- What has a new place is live, and each bridge above it is enabled.
use Rattle.std.proofs.Common.{◌≡◌, ◌&&◌, ◌||◌, ℕ, zero, suc, ◌<◌, inl, inr, true, false, not, arith, refl, sym, ◌∙◌, ap, subst, Some}
use Rattle.std.specs.Bool.{◌==◌}
use Rattle.std.specs.List.{Contains, list_any}
use Rattle.std.specs.Option.{is_some}
use Rattle.std.proofs.lemmas.Bool.{and_from, and_parts, both_ways, cases_eq, eq-eqb, false_from_ne_true, or_left, or_right}
use Rattle.pci_spec.specs.Window.{WindowKind}
use Rattle.pci_spec.specs.System.{System, Function, Space, Io, Part, has_part, is_bridge, is_implemented, is_space_on, is_window, space_of, window_space, Window}
use Rattle.pci_spec.specs.Bus.{secondary, is_behind, LeadsTo}
use Rattle.pci_spec.proofs.BusRanges.{root_means}
use Rattle.plan_spec.specs.Plan.{bridges_above}
use Rattle.plan_spec.proofs.Planning.AboveBuses.{above_to, above_from, root_or_led}
use Rattle.plan_spec.proofs.Planning.Behind.{any_from, behind_range, bridge_between}
use Rattle.plan_spec.proofs.Planning.Safe.{order_of}
use Rattle.settle_spec.specs.Lists.{Request}
use Rattle.settle_spec.specs.Parts.{FunctionPart, is_part, has_left, header_parts, class_in, are_same_space}
use Rattle.settle_spec.specs.Stands.{part_space, window_part}
use Rattle.settle_spec.specs.Items.{Placed}
use Rattle.settle_spec.specs.LiveLaws.{is_live, has_live_behind}
use Rattle.settle_spec.specs.Keeping.Places.{new_place}
use Rattle.settle_spec.specs.Registers.{changing, has_own}
use Rattle.settle_spec.specs.Keeping.Registers.{got_place, is_enabled_in}
use Rattle.settle_spec.proofs.Live.{live_by_bus}
use Rattle.settle_spec.proofs.Nested.{at_secondary, is_no_root, one_bridge}
use Rattle.settle_laws.specs.Keeping.PlacesLaws.{CanSettle}
use Rattle.settle_laws.proofs.HeaderParts.{header_of}
use Rattle.settle_laws.proofs.Held.{same_itself}
use Rattle.settle_laws.proofs.Keeping.Held.{above_above, own_by, plain_by}
use Rattle.settle_laws.proofs.ItemForms.{IsPlaceable, IsOwnPart, IsNewWindow}
use Rattle.settle_laws.proofs.Keeping.Kept.{above_stays}
use Rattle.settle_laws.proofs.PartClasses.{space_of_class}
use Rattle.settle_laws.proofs.PartPlaces.{IsBehindOf, behind_of}
use Rattle.settle_laws.proofs.Keeping.PartPlaces.{part_placed, IsNewPlace, new_place_is}
use Rattle.settle_laws.proofs.Keeping.ShownParts.{in_changing}
use Rattle.settle_laws.proofs.Unleft.{has_plain, unleft, unleft_itself}
use Rattle.settle_spec.specs.Kept.{Kept}

module _ (q : Request) (s : System) (k : Kept) (can : CanSettle q s k) where
  -- ---- a function with a BAR or ROM that is looked at

  -- a function with a live one on the bus behind it is live, if none of its BARs is left where that counts
  live_by_behind : (space : Space) (b f : Function) → Contains s f → LeadsTo s b f.slot.bus → is_live q s k space f ≡ true → not (are_same_space space Io && has_left q s b) ≡ true → (is_enabled_in q s k space b ≡ true) × (is_live q s k space b ≡ true)
  live_by_behind space b f listed (in_b, bridge, to) live kept =
      let behind : has_live_behind s (is_live q s k space) b ≡ true =
      and_from (is_bridge b) (list_any (λ g. g.slot.bus == secondary b && is_live q s k space g) s) bridge
      (any_from (λ g. g.slot.bus == secondary b && is_live q s k space g) s f listed (and_from (f.slot.bus == secondary b) (is_live q s k space f) (eq-eqb f.slot.bus (secondary b) (sym to)) live)) in
      let enabled : is_enabled_in q s k space b ≡ true =
      and_from (not (are_same_space space Io && has_left q s b)) (is_space_on b space || got_place q s k space b || has_live_behind s (is_live q s k space) b) kept
      (or_right (is_space_on b space || got_place q s k space b) (has_live_behind s (is_live q s k space) b) behind) in (
        enabled,
        live_by_bus q s k space can.system can.nested b in_b
            ∙ and_from (is_enabled_in q s k space b) (has_own q s space b || has_live_behind s (is_live q s k space) b) enabled (or_right (has_own q s space b) (has_live_behind s (is_live q s k space) b) behind),
      )

  module _ (f : Function) (p : Part) (listed : Contains s f) (there : Contains (header_parts f) p) (part : is_part q s f p ≡ true) (plain : is_window p ≡ false) where
    abbrev space : Space
    space = space_of f p

    pub has_own_here : has_own q s space f ≡ true
    has_own_here = own_by q s k can.system can.nested f listed p space there part plain refl

    has_plain_here : has_plain q s space f ≡ true
    has_plain_here = plain_by q s k can.system can.nested f listed p space there part plain refl

    -- it lives where its space is enabled
    pub live_on : is_enabled_in q s k space f ≡ true → is_live q s k space f ≡ true
    live_on enabled =
        live_by_bus q s k space can.system can.nested f listed
        ∙ and_from (is_enabled_in q s k space f) (has_own q s space f || has_live_behind s (is_live q s k space) f) enabled (or_left (has_own q s space f) (has_live_behind s (is_live q s k space) f) has_own_here)

    -- and so it is for what gets a place
    got_here : k.stays record { function = f; part = p } ≡ false → got_place q s k space f ≡ true
    got_here moves =
        let r : FunctionPart = record { function = f; part = p } in
        let x = part_placed q s k can f p listed there part plain moves in
        any_from (λ r. are_same_space space (part_space r) && is_some (new_place q s k r)) (changing q s f) r
        (in_changing q s k can f listed p there (or_left (is_part q s f p) (is_window p && is_implemented f p) part))
        (and_from (are_same_space space (space_of f p)) (is_some (new_place q s k r)) (same_itself space) (ap is_some x.1))

    enabled_here : k.stays record { function = f; part = p } ≡ false → is_enabled_in q s k space f ≡ true
    enabled_here moves =
        let behind = has_live_behind s (is_live q s k space) f in
        and_from (not (are_same_space space Io && has_left q s f)) (is_space_on f space || got_place q s k space f || behind) (unleft_itself q s can.system can.nested f space has_plain_here)
        (or_left (is_space_on f space || got_place q s k space f) behind (or_right (is_space_on f space) (got_place q s k space f) (got_here moves)))

  -- ---- bridges above

  -- bridges above what is live are, if none of their BARs is left where that counts
  pub live_above : (n : ℕ) (space : Space) (g b : Function) → g.slot.bus < n → Contains s g → is_live q s k space g ≡ true → Contains (bridges_above s g.slot.bus) b
      → ((d : Function) → Contains (bridges_above s g.slot.bus) d → not (are_same_space space Io && has_left q s d) ≡ true) → is_live q s k space b ≡ true
  live_above zero space g b less listed live above kept = absurd (let no : ⊥ = omega (arith, less) in no)
  live_above (suc n) space g b less listed live above kept = elim (root_or_led q.roots s can.system can.nested g listed) [
    | inl root ↦ (let is = above_to s g.slot.bus b above in absurd (is_no_root q.roots s can.system can.nested b g.slot.bus is.listed is.bridge is.behind ((root_means q.roots g.slot.bus).1 root)))
    | inr (d, leader) ↦
        let is = above_to s g.slot.bus b above in
        let to = leader.leads in
        let up = order_of q.roots s can.nested d leader.listed leader.bridge in
        let in_d = above_from s g.slot.bus d record { listed = leader.listed; bridge = leader.bridge; behind = at_secondary q.roots s can.system can.nested d g.slot.bus leader.listed leader.bridge to } in
        let live_d = (live_by_behind space d g listed (leader.listed, leader.bridge, to) live (kept d in_d)).1 in
        elim (cases_eq (secondary b) (secondary d)) [
          | inl same ↦ subst (λ x. is_live q s k space x ≡ true) (sym (one_bridge q.roots s can.system can.nested b d is.listed leader.listed is.bridge leader.bridge same)) live_d
          | inr differ ↦
              let behind = subst (λ bus. is_behind b bus ≡ true) (sym to) is.behind in
              let low = (behind_range b (secondary d) behind).0 in
              let between = bridge_between q.roots s can.system can.nested b d is.listed leader.listed is.bridge leader.bridge behind (omega (arith, low, differ)) in
              live_above n space d b (omega (arith, less, to, up)) leader.listed live_d (above_from s d.slot.bus b record { listed = is.listed; bridge = is.bridge; behind = between })
              (λ e in_e. kept e (above_above q s k can.system can.nested g d e in_d in_e))
        ]
  ]

  -- ---- what has a new place

  -- it serves a BAR or ROM, and lives
  pub record IsServing (space : Space) (f : Function) : Type 0 where
    pub for : Function
    pub own : has_own q s space for ≡ true
    pub up : (d : Function) → Contains (bridges_above s f.slot.bus) d → Contains (bridges_above s for.slot.bus) d
    pub live : is_live q s k space f ≡ true

  -- a function does for a BAR or ROM of its own, in a space that it enables
  pub serves_own : (f : Function) (p : Part) → Contains s f → Contains (header_parts f) p → is_part q s f p ≡ true → is_window p ≡ false → is_enabled_in q s k (space_of f p) f ≡ true → IsServing (space_of f p) f
  serves_own f p listed there part plain enabled = record { for = f; own = has_own_here f p listed there part plain; up = λ d has. has; live = live_on f p listed there part plain enabled }

  -- and a bridge for what is behind it and gets a place
  serves_behind : (c : WindowKind) (f : Function) → (is : IsBehindOf q s c f) → k.stays record { function = is.f; part = is.p } ≡ false → IsServing (window_space c) f
  serves_behind c f is moves =
      let space = space_of is.f is.p in
      let same : space ≡ window_space c = sym (space_of_class q s is.f is.p) ∙ ap window_space is.class in
      let own = has_own_here is.f is.p is.listed is.there is.part is.plain in
      let live = live_on is.f is.p is.listed is.there is.part is.plain (enabled_here is.f is.p is.listed is.there is.part is.plain moves) in
      subst (λ sp. IsServing sp f) same record {
        for = is.f;
        own = own;
        up = λ d has. above_above q s k can.system can.nested is.f f d is.above has;
        live = live_above (suc is.f.slot.bus) space is.f f (omega arith) is.listed live is.above
            (λ d has. unleft q s can.system can.nested is.f d space own has);
      }

  pub serves : (f : Function) (p : Part) → Contains s f → has_part f p ≡ true → (x : Placed) → new_place q s k record { function = f; part = p } ≡ Some x → IsServing (space_of f p) f
  serves f p listed there x placed = by is.placeable
    where
      is : IsNewPlace q s k can f p x
      is = new_place_is q s k can f p listed there x placed

      -- what is behind a new window doesn't stay
      moves_behind : p ≡ Window (class_in q s f p) → (of : IsBehindOf q s (class_in q s f p) f) → k.stays record { function = of.f; part = of.p } ≡ false
      moves_behind window of = false_from_ne_true (k.stays record { function = of.f; part = of.p }) (λ keeps.
          let over = above_stays q s k can of.f of.p of.listed of.there keeps f of.above in
          both_ways (k.stays record { function = f; part = p }) is.moves
          (ap (λ o. k.stays record { function = f; part = o }) window ∙ ap (λ c. k.stays (window_part c f)) (sym of.class) ∙ over))

      by : IsPlaceable q s (class_in q s f p) f p → IsServing (space_of f p) f
      by (IsOwnPart plain part) = serves_own f p listed (header_of f p there) part plain (enabled_here f p listed (header_of f p there) part plain is.moves)
      by (IsNewWindow window bridge has) =
          let of = behind_of q s (class_in q s f p) f listed bridge has in
          subst (λ sp. IsServing sp f) (space_of_class q s f p) (serves_behind (class_in q s f p) f of (moves_behind window of))

  -- the bridge that leads to the bus of what serves does too
  pub serves_over : (space : Space) (f b : Function) → Contains s f → IsServing space f → LeadsTo s b f.slot.bus → IsServing space b
  serves_over space f b listed is leads =
      let above = above_from s f.slot.bus b record { listed = leads.0; bridge = leads.1; behind = at_secondary q.roots s can.system can.nested b f.slot.bus leads.0 leads.1 leads.2 } in
      record {
        for = is.for;
        own = is.own;
        up = λ d has. is.up d (above_above q s k can.system can.nested f b d above has);
        live = (live_by_behind space b f listed leads is.live (unleft q s can.system can.nested is.for b space is.own (is.up b above))).1;
      }

  -- what serves is enabled
  pub serves_enabled : (space : Space) (f : Function) → Contains s f → IsServing space f → is_enabled_in q s k space f ≡ true
  serves_enabled space f listed is =
      (and_parts (is_enabled_in q s k space f) (has_own q s space f || has_live_behind s (is_live q s k space) f) (sym (live_by_bus q s k space can.system can.nested f listed) ∙ is.live)).0
