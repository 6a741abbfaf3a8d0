-- The new places of parts: which parts have one, and that what they show of it can be shown.
use Rattle.std.proofs.Common.{◌≡◌, true, false, refl, sym, ◌∙◌, ap, subst, Option, None, Some}
use Rattle.std.specs.Bool.{◌==◌}
use Rattle.std.specs.List.{Contains}
use Rattle.std.proofs.lemmas.Bool.{both_ways, eqb-true}
use Rattle.pci_spec.specs.Window.{WindowKind}
use Rattle.pci_spec.specs.System.{System, Function, Space, Part, Window, has_part, is_bridge, is_window, space_of}
use Rattle.pci_spec.proofs.Members.{in_map_from}
use Rattle.settle_spec.specs.Lists.{Request}
use Rattle.settle_spec.specs.Parts.{FunctionPart, is_part, header_parts, class_in}
use Rattle.settle_spec.specs.Stands.{rank, window_part}
use Rattle.settle_spec.specs.Items.{PlacingItem, Placed, has_of, new_window}
use Rattle.settle_spec.specs.Places.{placed_of, place_among}
use Rattle.settle_spec.specs.Keeping.Places.{space_items, new_place}
use Rattle.settle_laws.specs.Keeping.PlacesLaws.{CanSettle}
use Rattle.settle_laws.proofs.Keeping.BusPlaced.{placed_bus}
use Rattle.settle_laws.proofs.Finding.{found}
use Rattle.settle_laws.proofs.ItemForms.{IsPlaceable, item_by, item_moves, own_in, window_in, header_has}
use Rattle.settle_laws.proofs.Keeping.Items.{IsItemIn, same_rank, space_items_are}
use Rattle.settle_laws.proofs.PartClasses.{space_of_class}
use Rattle.settle_laws.proofs.Keeping.PlacedBus.{places, items, place_of, in_space, beside_itself}
use Rattle.settle_spec.specs.Kept.{Kept}

module _ (q : Request) (s : System) (k : Kept) (can : CanSettle q s k) where
  -- ---- which parts have a place

  in_own_space : (f : Function) (p : Part) (i : PlacingItem) → Contains (items q s k can (class_in q s f p) f.slot.bus) i → Contains (space_items q s k (space_of f p) f.slot.bus) i
  in_own_space f p i has = subst (λ sp. Contains (space_items q s k sp f.slot.bus) i) (space_of_class q s f p) (in_space q s k can (class_in q s f p) f.slot.bus i has)

  placed_there : (f : Function) (p : Part) → Contains s f → has_part f p ≡ true → Contains (items q s k can (class_in q s f p) f.slot.bus) (item_by (new_window q s) (class_in q s f p) f p)
      → (x : Placed) × (new_place q s k record { function = f; part = p } ≡ Some x)
  placed_there f p listed there has =
      let space = space_of f p in
      let b = placed_bus q s k can space f listed in
      let at = place_of q s k can space f.slot.bus b f p listed there (in_own_space f p (item_by (new_window q s) (class_in q s f p) f p) has) in
      (at.at, ap (λ x. place_among record { function = f; part = p } (placed_of x)) b.is ∙ at.found_there)

  -- a BAR or ROM that is looked at and doesn't stay has one
  pub part_placed : (f : Function) (p : Part) → Contains s f → Contains (header_parts f) p → is_part q s f p ≡ true → is_window p ≡ false → k.stays record { function = f; part = p } ≡ false
      → (x : Placed) × (new_place q s k record { function = f; part = p } ≡ Some x)
  part_placed f p listed there part plain moves =
      placed_there f p listed (header_has f p there plain)
      (own_in q s (new_window q s) (class_in q s f p) k.stays f.slot.bus f p listed (beside_itself q s k can f.slot.bus) there part plain refl moves)

  -- and so has the window of a bridge with one of its class behind it
  pub window_placed : (b : Function) (c : WindowKind) → Contains s b → is_bridge b ≡ true → has_of q s c b ≡ true → k.stays (window_part c b) ≡ false → (x : Placed) × (new_place q s k (window_part c b) ≡ Some x)
  window_placed b c listed bridge has moves =
      placed_there b (Window c) listed bridge
      (window_in q s (new_window q s) c k.stays b.slot.bus b listed (beside_itself q s k can b.slot.bus) bridge has moves)

  item_of : (space : Space) (f : Function) → Contains s f → (x : Placed) → Contains (places q s k can space f.slot.bus) x → IsItemIn q s k space f.slot.bus x.item
  item_of space f listed x has =
      let b = placed_bus q s k can space f listed in
      space_items_are q s k space f.slot.bus x.item
      (subst (λ xs. Contains xs x.item) b.are.all (in_map_from (λ (y : Placed). y.item) b.placed x (subst (λ xs. Contains xs x) (ap placed_of b.is) has)))

  -- what has one is such a part
  pub record IsNewPlace (f : Function) (p : Part) (x : Placed) : Type 0 where
    pub listed : Contains (places q s k can (space_of f p) f.slot.bus) x
    pub item : x.item ≡ item_by (new_window q s) (class_in q s f p) f p
    pub in_class : Contains (items q s k can (class_in q s f p) f.slot.bus) x.item
    pub placeable : IsPlaceable q s (class_in q s f p) f p
    pub moves : k.stays record { function = f; part = p } ≡ false

  pub new_place_is : (f : Function) (p : Part) → Contains s f → has_part f p ≡ true → (x : Placed) → new_place q s k record { function = f; part = p } ≡ Some x → IsNewPlace f p x
  new_place_is f p listed there x shown =
      let space = space_of f p in
      let r : FunctionPart = record { function = f; part = p } in
      let at = found (λ (y : Placed). rank y.item.region == rank r) (places q s k can space f.slot.bus) x shown in
      let is = item_of space f listed x at.0 in
      let item : x.item ≡ item_by (new_window q s) (class_in q s f p) f p = same_rank q s k can.system space f.slot.bus x.item is f p listed there (eqb-true (rank x.item.region) (rank r) at.1) in
      let region : record { function = is.of.f; part = is.of.p } ≡ r = ap (λ (i : PlacingItem). i.region) (is.of.is ∙ item) in
      let function : is.of.f ≡ f = ap (λ (z : FunctionPart). z.function) region in
      let part : is.of.p ≡ p = ap (λ (z : FunctionPart). z.part) region in
      let class : is.c ≡ class_in q s f p = ap (λ (i : PlacingItem). i.class) (is.of.is ∙ item) in
      record {
        listed = at.0;
        item = item;
        in_class = subst (λ c. Contains (items q s k can c f.slot.bus) x.item) class is.has;
        placeable = subst (λ o. IsPlaceable q s (class_in q s f p) f o) part (subst (λ g. IsPlaceable q s (class_in q s f p) g is.of.p) function (subst (λ c. IsPlaceable q s c is.of.f is.of.p) class is.of.can));
        moves = ap (λ (i : PlacingItem). k.stays i.region) (sym item) ∙ item_moves q s (new_window q s) is.c k.stays f.slot.bus x.item is.has;
      }

  -- so what stays has none
  pub kept_unplaced : (f : Function) (p : Part) → Contains s f → has_part f p ≡ true → k.stays record { function = f; part = p } ≡ true → new_place q s k record { function = f; part = p } ≡ None
  kept_unplaced f p listed there keeps = by (new_place q s k r) refl
    where
      r : FunctionPart
      r = record { function = f; part = p }

      by : (o : Option Placed) → new_place q s k r ≡ o → new_place q s k r ≡ None
      by None shown = shown
      by (Some x) shown = absurd (both_ways (k.stays r) (new_place_is f p listed there x shown).moves keeps)
