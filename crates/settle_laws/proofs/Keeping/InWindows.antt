-- Without wishes a part ends behind a bridge in the bridge's window of its class, which stays or is placed, and apart from what is beside it.
use Rattle.std.proofs.Common.{◌≡◌, ◌&&◌, inl, inr, true, false, cond, arith, refl, sym, ◌∙◌, ap, subst, Option, None, Some}
use Rattle.std.specs.Bool.{nat_le, ◌==◌}
use Rattle.std.specs.List.{Contains}
use Rattle.std.proofs.lemmas.Bool.{and_from, and_parts, both_ways, cases_Bool, eq-eqb, leb-true, or_left, or_right}
use Rattle.pci_spec.specs.Slot.{same_slot, slot_number}
use Rattle.pci_spec.specs.Decoded.{Range}
use Rattle.pci_spec.specs.Window.{WindowKind}
use Rattle.pci_spec.specs.System.{System, Function, Space, Part, Window, has_part, register_of, space_of, window_space}
use Rattle.pci_spec.specs.Bus.{are_siblings, is_root, secondary, LeadsTo}
use Rattle.pci_spec.proofs.BusRanges.{root_means}
use Rattle.pci_spec.proofs.Nesting.{one_function}
use Rattle.pci_spec.proofs.Regions.{register_of-lt}
use Rattle.pci_spec.proofs.SameSlot.{slot_itself}
use Rattle.plan_spec.specs.Planning.Layout.{IsInside, LieApart, AreBeside, AreTwo}
use Rattle.settle_spec.specs.Lists.{Request}
use Rattle.settle_spec.specs.Parts.{FunctionPart, class_in}
use Rattle.settle_spec.specs.Stands.{rank, window_part}
use Rattle.settle_spec.specs.Items.{PlacingItem, Placed, taken_by}
use Rattle.settle_spec.specs.Places.{placed_of, place_among}
use Rattle.settle_spec.specs.Keeping.Places.{new_place, taken_at}
use Rattle.settle_laws.proofs.Keeping.Buses.{roots_are_one}
use Rattle.settle_laws.specs.PlacesLaws.{place_range}
use Rattle.settle_spec.specs.Wishes.{place_then}
use Rattle.settle_laws.specs.Keeping.PlacesLaws.{CanSettle}
use Rattle.settle_laws.proofs.BusPlaced.{one_left}
use Rattle.settle_laws.proofs.Keeping.BusPlaced.{placed_bus, range_or_none, range_of_item, no_item}
use Rattle.settle_laws.proofs.HeaderParts.{header_of}
use Rattle.settle_laws.proofs.Keeping.Kept.{stays_listed, kept_over}
use Rattle.settle_laws.proofs.PartClasses.{space_of_class}
use Rattle.settle_laws.proofs.Keeping.PartPlaces.{IsNewPlace, new_place_is}
use Rattle.settle_laws.proofs.Keeping.PlacedBus.{IsPlacedBus, EndsIn, Keeps, Gets, items, places, end_apart}
use Rattle.settle_spec.specs.Kept.{Kept}
use Rattle.settle_laws.proofs.InWindows.{place_inside}

module _ (q : Request) (s : System) (k : Kept) where
  pub kept_range : (r : FunctionPart) → k.stays r ≡ true → place_then q s k r ≡ Some (k.range r)
  kept_range r keeps = ap (λ t. cond t (Some (k.range r)) (place_range (new_place q s k r))) keeps

  pub placed_range : (r : FunctionPart) → k.stays r ≡ false → place_then q s k r ≡ place_range (new_place q s k r)
  placed_range r moves = ap (λ t. cond t (Some (k.range r)) (place_range (new_place q s k r))) moves

  pub place_of_range : (o : Option Placed) (t : Range) → place_range o ≡ Some t → (x : Placed) × (o ≡ Some x) × (taken_by x.item x.at ≡ t)
  place_of_range None t e = cc
  place_of_range (Some x) t e = (x, refl, cc)

  pub placed_nowhere : (r : FunctionPart) → place_then q s k r ≡ None → (k.stays r ≡ false) × (new_place q s k r ≡ None)
  placed_nowhere r none = elim (cases_Bool (k.stays r)) [
    | inl keeps ↦ (let is : Some (k.range r) ≡ None = sym (kept_range r keeps) ∙ none in cc)
    | inr moves ↦ (moves, by (new_place q s k r) (sym (placed_range r moves) ∙ none))
  ]
    where
      by : (o : Option Placed) → place_range o ≡ None → o ≡ None
      by None e = refl
      by (Some x) e = cc

module _ (q : Request) (s : System) (k : Kept) (can : CanSettle q s k) where
  -- ---- where parts end on their buses

  -- the bus of a part, placed
  abbrev bus_of : (f : Function) (p : Part) → Contains s f → IsPlacedBus q s k can (space_of f p) f.slot.bus
  bus_of f p listed = placed_bus q s k can (space_of f p) f listed

  ends_there : (f : Function) (p : Part) (listed : Contains s f) → has_part f p ≡ true → (t : Range) → place_then q s k record { function = f; part = p } ≡ Some t
      → EndsIn q s k can (bus_of f p listed).placed record { function = f; part = p } t
  ends_there f p listed there t e = elim (cases_Bool (k.stays r)) [
    | inl keeps ↦ Keeps keeps (let is : Some (k.range r) ≡ Some t = sym (kept_range q s k r keeps) ∙ e in cc)
    | inr moves ↦
        let x = place_of_range q s k (new_place q s k r) t (sym (placed_range q s k r moves) ∙ e) in
        let b = bus_of f p listed in
        let is = new_place_is q s k can f p listed there x.0 x.1 in
        Gets moves x.0 (sym (ap (λ y. place_among r (placed_of y)) b.is) ∙ x.1) (subst (λ xs. Contains xs x.0) (ap placed_of b.is) is.listed) (ap (λ (i : PlacingItem). i.region) is.item) x.2
  ]
    where
      r : FunctionPart
      r = record { function = f; part = p }

  range_there : (space : Space) (f : Function) (p : Part) (b : IsPlacedBus q s k can space f.slot.bus) → space_of f p ≡ space → (t : Range) → EndsIn q s k can b.placed record { function = f; part = p } t
      → place_then q s k record { function = f; part = p } ≡ Some t
  range_there space f p b of t (Keeps keeps is) = kept_range q s k record { function = f; part = p } keeps ∙ ap Some is
  range_there space f p b of t (Gets moves x shown has at is) =
      placed_range q s k record { function = f; part = p } moves
      ∙ ap (λ sp. place_range (place_among record { function = f; part = p } (places q s k can sp f.slot.bus))) of
      ∙ ap (λ y. place_range (place_among record { function = f; part = p } (placed_of y))) b.is
      ∙ ap place_range shown ∙ ap Some is

  -- ---- in a window

  -- the window of a bridge around a part
  pub record IsPlacedIn (f : Function) (p : Part) (b : Function) (t : Range) : Type 0 where
    pub w : Range
    pub ends : place_then q s k (window_part (class_in q s f p) b) ≡ Some w
    pub inside : IsInside t w

  module _ (f b : Function) (p : Part) (listed : Contains s f) (there : has_part f p ≡ true) (leads : LeadsTo s b f.slot.bus) where
    abbrev r : FunctionPart
    r = record { function = f; part = p }

    abbrev c : WindowKind
    c = class_in q s f p

    in_kept : k.stays r ≡ true → IsPlacedIn f p b (k.range r)
    in_kept keeps =
        let over = window_part c b in
        let kept = kept_over q s k can b leads.0 leads.1 r (stays_listed q s k can f p listed (header_of f p there) keeps) keeps leads.2 in
        let within = kept.0 in
        let parts = and_parts (nat_le (k.range over).first (k.range r).first) (nat_le (k.range r).last (k.range over).last) within in
        record {
          w = k.range over;
          ends = kept_range q s k over kept.1;
          inside = (leb-true (k.range over).first (k.range r).first parts.0, leb-true (k.range r).last (k.range over).last parts.1);
        }

    in_placed : (x : Placed) → IsNewPlace q s k can f p x → IsPlacedIn f p b (taken_by x.item x.at)
    in_placed x is =
        let space = space_of f p in
        let here = placed_bus q s k can space f listed in
        let over = placed_bus q s k can space b leads.0 in
        let own = here.are.each x (subst (λ xs. Contains xs x) (ap placed_of here.is) is.listed) in
        let of : window_space c ≡ space = space_of_class q s f p in
        let at : x.item.region.function.slot.bus ≡ secondary b = ap (λ (i : PlacingItem). i.region.function.slot.bus) is.item ∙ sym leads.2 in
        elim (range_or_none q s k can space b leads.0 leads.1 over c of) [
          | inl none ↦ no_item q s k can space b leads.0 leads.1 over _ x.item (subst (λ n. Contains (items q s k can c n) x.item) (sym leads.2) is.in_class) none
          | inr h ↦
              let in_it : h.range ≡ own.0 = one_left h.range own.0 (subst (λ rs. Contains rs own.0) (range_of_item q s k can space b leads.0 leads.1 over c h x.item (ap (λ (i : PlacingItem). i.class) is.item) at) own.1) in
              record {
                w = h.range;
                ends = range_there space b (Window c) over of h.range h.ends;
                inside = subst (IsInside (taken_by x.item x.at)) (sym in_it) (place_inside own.0 (taken_at q s k space f.slot.bus) x own.2);
              }
        ]

    pub placed_in_window : (t : Range) → place_then q s k r ≡ Some t → IsPlacedIn f p b t
    placed_in_window t e = elim (cases_Bool (k.stays r)) [
      | inl keeps ↦ (let is : Some (k.range r) ≡ Some t = sym (kept_range q s k r keeps) ∙ e in let same : k.range r ≡ t = cc in subst (IsPlacedIn f p b) same (in_kept keeps))
      | inr moves ↦
          let x = place_of_range q s k (new_place q s k r) t (sym (placed_range q s k r moves) ∙ e) in
          subst (IsPlacedIn f p b) x.2 (in_placed x.0 (new_place_is q s k can f p listed there x.0 x.1))
    ]

  -- ---- apart

  same_places : (space : Space) (f g : Function) → AreBeside q.roots f g → places q s k can space f.slot.bus ≡ places q s k can space g.slot.bus
  same_places space f g (inl same) = ap (places q s k can space) same
  same_places space f g (inr (root_f, root_g)) = ap placed_of (roots_are_one q s k space f.slot.bus g.slot.bus ((root_means q.roots f.slot.bus).1 root_f) ((root_means q.roots g.slot.bus).1 root_g))

  pub siblings_of : (f g : Function) → AreBeside q.roots f g → are_siblings q.roots f.slot.bus g.slot.bus ≡ true
  siblings_of f g (inl same) = or_left (f.slot.bus == g.slot.bus) (is_root q.roots f.slot.bus && is_root q.roots g.slot.bus) (eq-eqb f.slot.bus g.slot.bus same)
  siblings_of f g (inr (root_f, root_g)) =
      or_right (f.slot.bus == g.slot.bus) (is_root q.roots f.slot.bus && is_root q.roots g.slot.bus)
      (and_from (is_root q.roots f.slot.bus) (is_root q.roots g.slot.bus) ((root_means q.roots f.slot.bus).1 root_f) ((root_means q.roots g.slot.bus).1 root_g))

  pub two_ranks : (f g : Function) (p r : Part) → Contains s f → Contains s g → has_part f p ≡ true → has_part g r ≡ true → AreTwo f p g r → rank record { function = f; part = p } ≡ rank record { function = g; part = r } → ⊥
  two_ranks f g p r in_f in_g there_p there_r two e =
      let low = register_of-lt f p there_p in
      let high = register_of-lt g r there_r in
      let slot : slot_number f.slot ≡ slot_number g.slot = omega (arith, e, low, high) in
      let one : f ≡ g = one_function s can.system f g in_f in_g slot in
      elim two [
        | inl slots ↦ both_ways (same_slot f.slot g.slot) slots (ap (λ (h : Function). same_slot f.slot h.slot) (sym one) ∙ slot_itself f.slot)
        | inr differ ↦ differ (let same : register_of f p ≡ register_of g r = omega (arith, e, slot) in same)
      ]

  pub placed_apart : (f g : Function) (p r : Part) → Contains s f → Contains s g → has_part f p ≡ true → has_part g r ≡ true → space_of f p ≡ space_of g r → AreBeside q.roots f g → AreTwo f p g r
      → (t u : Range) → place_then q s k record { function = f; part = p } ≡ Some t → place_then q s k record { function = g; part = r } ≡ Some u → LieApart t u
  placed_apart f g p r in_f in_g there_p there_r spaces beside two t u ends_t ends_u =
      let space = space_of f p in
      let bus = bus_of f p in_f in
      let other = bus_of g r in_g in
      let same : other.placed ≡ bus.placed = sym (ap placed_of other.is) ∙ ap (λ sp. places q s k can sp g.slot.bus) (sym spaces) ∙ sym (same_places space f g beside) ∙ ap placed_of bus.is in
      let ends_there_u = subst (λ xs. EndsIn q s k can xs record { function = g; part = r } u) same (ends_there g r in_g there_r u ends_u) in
      end_apart q s k can space f.slot.bus bus record { function = f; part = p } record { function = g; part = r } t u
      record { listed = in_f; there = header_of f p there_p; beside = siblings_of f f (inl refl); at = refl }
      record { listed = in_g; there = header_of g r there_r; beside = siblings_of f g beside; at = sym spaces }
      (two_ranks f g p r in_f in_g there_p there_r two) (ends_there f p in_f there_p t ends_t) ends_there_u
