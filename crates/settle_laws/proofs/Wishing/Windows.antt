-- What a window that ends somewhere is: whole pages that it can hold, and no less than what it has without wishes.
use Rattle.std.proofs.Common.{◌≡◌, ◌&&◌, ℕ, ◌+◌, ◌%◌, ◌≤◌, inl, inr, true, false, not, arith, refl, sym, ◌∙◌, ap, subst, Option, None, Some, []}
use Rattle.std.specs.List.{Contains, filter, flat_map}
use Rattle.std.proofs.lemmas.Bool.{and_parts, and_from, cases_Bool, or_left, or_right}
use Rattle.pci_spec.specs.Decoded.{Range}
use Rattle.pci_spec.specs.Window.{WindowKind, bounds_for, has_window, is_closed, page_size}
use Rattle.pci_spec.specs.System.{System, Function, Space, Part, Bar, Rom, Window, has_part, is_bridge, is_implemented, is_window, window_space}
use Rattle.pci_spec.specs.Bus.{are_siblings}
use Rattle.pci_spec.proofs.Members.{in_head, in_filter_from, in_flat_map_from}
use Rattle.plan_spec.specs.Planning.Layout.{IsInside, LieApart}
use Rattle.plan_spec.proofs.Planning.Placement.{mod_of_multiple, multiple_of_mod, multiple_add}
use Rattle.judge_spec.specs.ToldRegion.{ToldRegion, told_regions}
use Rattle.settle_spec.specs.Lines.{line_range, can_keep_off}
use Rattle.settle_spec.specs.Lists.{Request}
use Rattle.settle_spec.specs.Parts.{FunctionPart, addresses, is_part, are_same_space}
use Rattle.settle_spec.specs.Stands.{part_space, window_part}
use Rattle.settle_spec.specs.Items.{Placed, highest_in, taken_by}
use Rattle.settle_spec.specs.Growth.{range_list}
use Rattle.settle_spec.specs.GrowthLaws.{MoveOut}
use Rattle.settle_spec.specs.Kept.{Kept}
use Rattle.settle_spec.specs.Keeping.Places.{new_place}
use Rattle.settle_spec.specs.Registers.{changing}
use Rattle.settle_spec.specs.Wishes.{place_then, range_then, there_then}
use Rattle.settle_spec.proofs.Reaching.{within_gives}
use Rattle.settle_laws.specs.Keeping.PlacesLaws.{CanSettle}
use Rattle.settle_laws.proofs.HeaderParts.{header_of, is_part_of}
use Rattle.settle_laws.proofs.PartClaims.{part_order}
use Rattle.settle_laws.proofs.Keeping.Ends.{unwished_end, wished_end, plain_end}
use Rattle.settle_laws.proofs.Keeping.Fits.{was, decodable, window_has, window_room, window_there}
use Rattle.settle_laws.proofs.Keeping.InWindows.{kept_range, placed_range, place_of_range}
use Rattle.settle_laws.proofs.Keeping.Kept.{stays_part, kept_forward}
use Rattle.settle_laws.proofs.Keeping.NewPlaces.{new_place_is as place_is}
use Rattle.settle_laws.proofs.Keeping.PlacesFit.{window_low}
use Rattle.settle_laws.proofs.Keeping.Shown.{can_change}
use Rattle.settle_laws.proofs.Keeping.ShownParts.{in_changing, own_placed}

module _ (q : Request) (s : System) (k : Kept) (can : CanSettle q s k) where
  pub record IsWindowEnd (c : WindowKind) (b : Function) (w : Range) : Type 0 where
    pub there : has_window c b.probe ≡ true
    pub forward : w.first ≤ w.last
    pub first : w.first % page_size c ≡ 0
    pub last : (w.last + 1) % page_size c ≡ 0
    pub low : w.last ≤ highest_in c b.probe
    pub holds : (t : Range) → place_then q s k (window_part c b) ≡ Some t → IsInside t w
    pub outward : (t : Range) → place_then q s k (window_part c b) ≡ Some t → (n : ℕ) → MoveOut (bounds_for c n t.first t.last) (bounds_for c n w.first w.last)
    pub off : (x : ToldRegion) → Contains (told_regions q.told) x → can_keep_off q x b.slot (window_space c) ≡ true → x.told.first ≤ x.told.last
        → ((t : Range) → place_then q s k (window_part c b) ≡ Some t → LieApart t (line_range x)) → LieApart w (line_range x)

  module _ (c : WindowKind) (b : Function) (listed : Contains s b) (bridge : is_bridge b ≡ true) where
    abbrev r : FunctionPart
    r = window_part c b

    -- it is that which it has without wishes
    itself : (w : Range) → place_then q s k r ≡ Some w → (t : Range) → place_then q s k r ≡ Some t → t ≡ w
    itself w placed t other = (let is : Some t ≡ Some w = sym other ∙ placed in cc)

    same_out : (w t : Range) → t ≡ w → (n : ℕ) → MoveOut (bounds_for c n t.first t.last) (bounds_for c n w.first w.last)
    same_out w t is n = subst (λ (x : Range). MoveOut (bounds_for c n x.first x.last) (bounds_for c n w.first w.last)) (sym is) record { base = omega arith; limit = omega arith; base_upper = omega arith; limit_upper = omega arith }

    same_in : (w t : Range) → t ≡ w → IsInside t w
    same_in w t is = subst (λ x. IsInside x w) (sym is) (omega arith, omega arith)

    kept_end : k.stays r ≡ true → place_then q s k r ≡ Some (k.range r) → IsWindowEnd c b (k.range r)
    kept_end keeps placed =
        let grown = can.sound.grown c b listed bridge keeps in
        record {
          there = (and_parts (is_bridge b) (has_window c b.probe) (and_parts (is_bridge b && has_window c b.probe) (not (is_closed c b.image)) (stays_part q s k can r listed keeps)).0).1;
          forward = kept_forward q s k can c b listed keeps;
          first = grown.first;
          last = grown.last;
          low = grown.low;
          holds = λ t other. same_in (k.range r) t (itself (k.range r) placed t other);
          outward = λ t other. same_out (k.range r) t (itself (k.range r) placed t other);
          off = λ x told can_be forward off. off (k.range r) placed;
        }

    new_end : (x : Placed) → new_place q s k r ≡ Some x → place_then q s k r ≡ Some (taken_by x.item x.at) → IsWindowEnd c b (taken_by x.item x.at)
    new_end x shown placed =
        let w = taken_by x.item x.at in
        let room = window_room q s k can b c listed bridge x shown in
        let some = room.some in
        let end : x.at + x.item.extent.size ≡ w.last + 1 = omega (arith, some) in
        record {
          there = window_there q s k can c b listed bridge (window_has q s k can b c listed bridge x shown);
          forward = omega arith;
          first = room.aligned;
          last = ap (λ n. n % page_size c) (sym end)
              ∙ mod_of_multiple (x.at + x.item.extent.size) (page_size c) (multiple_add x.at x.item.extent.size (page_size c) (multiple_of_mod x.at (page_size c) room.aligned) (multiple_of_mod x.item.extent.size (page_size c) room.whole));
          low = window_low q s k can b listed (was q s k can b listed) (decodable q s k can b listed) c x (place_is q s k can b listed (Window c) (is_part_of b (Window c) bridge) x shown);
          holds = λ t other. same_in w t (itself w placed t other);
          outward = λ t other. same_out w t (itself w placed t other);
          off = λ x told can_be forward off. off w placed;
        }

    placed_end : (w : Range) → place_then q s k r ≡ Some w → IsWindowEnd c b w
    placed_end w placed = elim (cases_Bool (k.stays r)) [
      | inl keeps ↦
          let at = kept_range q s k r keeps in
          let is : Some (k.range r) ≡ Some w = sym at ∙ placed in
          let same : k.range r ≡ w = cc in
          subst (IsWindowEnd c b) same (kept_end keeps at)
      | inr moves ↦
          let x = place_of_range q s k (new_place q s k r) w (sym (placed_range q s k r moves) ∙ placed) in
          subst (IsWindowEnd c b) x.2 (new_end x.0 x.1 (placed ∙ ap Some (sym x.2)))
    ]

    pub window_end_is : (w : Range) → range_then q s k r ≡ Some w → IsWindowEnd c b w
    window_end_is w ends = by (k.wished r) refl
      where
        by : (o : Option Range) → k.wished r ≡ o → IsWindowEnd c b w
        by None e = placed_end w (sym (unwished_end q s k r e) ∙ ends)
        by (Some x) e =
            let wish = can.sound.wished.windows c b x listed bridge e in
            let is : Some x ≡ Some w = sym (wished_end q s k r x e) ∙ ends in
            let same : x ≡ w = cc in
            subst (IsWindowEnd c b) same record { there = wish.there; forward = wish.forward; first = wish.first; last = wish.last; low = wish.low; holds = wish.holds; outward = wish.outward; off = wish.off }

  -- ---- any part that ends somewhere

  place_forward : (r : FunctionPart) → Contains s r.function → (t : Range) → place_then q s k r ≡ Some t → t.first ≤ t.last
  place_forward r listed t placed = elim (cases_Bool (k.stays r)) [
    | inl keeps ↦
        let is : Some (k.range r) ≡ Some t = sym (kept_range q s k r keeps) ∙ placed in
        let same : k.range r ≡ t = cc in
        let own = part_order q s r.function r.part (stays_part q s k can r listed keeps) in
        let around = within_gives (addresses r) (k.range r) (can.sound.holds r) in
        let first = around.first in
        let last = around.last in
        subst (λ (u : Range). u.first ≤ u.last) same (omega (arith, own, first, last))
    | inr moves ↦
        let x = place_of_range q s k (new_place q s k r) t (sym (placed_range q s k r moves) ∙ placed) in
        subst (λ (u : Range). u.first ≤ u.last) x.2 (omega arith)
  ]

  pub ends_forward : (f : Function) (p : Part) → Contains s f → has_part f p ≡ true → (t : Range) → range_then q s k record { function = f; part = p } ≡ Some t → t.first ≤ t.last
  ends_forward f (Bar n) listed there t ends = place_forward record { function = f; part = Bar n } listed t (sym (plain_end q s k can f (Bar n) listed there refl) ∙ ends)
  ends_forward f Rom listed there t ends = place_forward record { function = f; part = Rom } listed t (sym (plain_end q s k can f Rom listed there refl) ∙ ends)
  ends_forward f (Window c) listed there t ends = (window_end_is c f listed there t ends).forward

  own_looked_at : (f : Function) (p : Part) → Contains s f → has_part f p ≡ true → is_window p ≡ false → (t : Range) → range_then q s k record { function = f; part = p } ≡ Some t → is_part q s f p ≡ true
  own_looked_at f p listed there plain t ends =
      let r : FunctionPart = record { function = f; part = p } in
      elim (cases_Bool (k.stays r)) [
        | inl keeps ↦ stays_part q s k can r listed keeps
        | inr moves ↦
            let x = place_of_range q s k (new_place q s k r) t (sym (placed_range q s k r moves) ∙ sym (plain_end q s k can f p listed there plain) ∙ ends) in
            own_placed q s k can f listed p plain there x.0 x.1
      ]

  -- what ends somewhere is looked at, or is an implemented window
  looked_at : (f : Function) (p : Part) → Contains s f → has_part f p ≡ true → (t : Range) → range_then q s k record { function = f; part = p } ≡ Some t → can_change q s k f p ≡ true
  looked_at f (Bar n) listed there t ends = or_left (is_part q s f (Bar n)) (is_window (Bar n) && is_implemented f (Bar n)) (own_looked_at f (Bar n) listed there refl t ends)
  looked_at f Rom listed there t ends = or_left (is_part q s f Rom) (is_window Rom && is_implemented f Rom) (own_looked_at f Rom listed there refl t ends)
  looked_at f (Window c) listed there t ends =
      or_right (is_part q s f (Window c)) (is_window (Window c) && is_implemented f (Window c)) (and_from (is_bridge f) (has_window c f.probe) there (window_end_is c f listed there t ends).there)

  -- so it is among what is there on its bus
  pub in_there : (space : Space) (bus : ℕ) (r : FunctionPart) (t : Range) → Contains s r.function → has_part r.function r.part ≡ true → are_siblings q.roots bus r.function.slot.bus ≡ true → are_same_space space (part_space r) ≡ true
      → range_then q s k r ≡ Some t → Contains (there_then q s k space bus) t
  in_there space bus r t listed there beside same ends =
      let test = λ (x : FunctionPart). are_siblings q.roots bus x.function.slot.bus && are_same_space space (part_space x) in
      in_flat_map_from (λ x. range_list (range_then q s k x)) (filter test (flat_map (changing q s) s)) r t
      (in_filter_from test (flat_map (changing q s) s) r
      (in_flat_map_from (changing q s) s r.function r listed (in_changing q s k can r.function listed r.part (header_of r.function r.part there) (looked_at r.function r.part listed there t ends)))
      (and_from (are_siblings q.roots bus r.function.slot.bus) (are_same_space space (part_space r)) beside same))
      (subst (λ o. Contains (range_list o) t) (sym ends) (in_head t []))
