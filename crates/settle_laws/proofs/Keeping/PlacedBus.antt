-- A bus whose items are placed beside what is kept: each has its place, and what stays and what is placed end apart.
use Rattle.std.proofs.Common.{◌≡◌, ◌&&◌, ℕ, ◌<◌, inl, inr, List, [], ◌∷◌, true, false, refl, sym, ◌∙◌, ap, subst, Option, None, Some}
use Rattle.std.specs.Bool.{◌==◌, if◌then◌else◌}
use Rattle.std.specs.List.{Contains}
use Rattle.std.proofs.lemmas.Bool.{and_parts, eq-eqb, eqb-true, or_left}
use Rattle.std.proofs.lemmas.List.Elements.{Contains-append_left, Contains-append_right}
use Rattle.pci_spec.specs.Decoded.{Range}
use Rattle.pci_spec.specs.Window.{WindowKind, IoWindow, MemoryWindow, PrefetchWindow}
use Rattle.pci_spec.specs.System.{System, Function, Space, Part, has_part, window_space}
use Rattle.pci_spec.specs.Bus.{is_root, are_siblings}
use Rattle.pci_spec.proofs.Members.{in_map_to, in_map_from, IsMade}
use Rattle.plan_spec.specs.Planning.Layout.{LieApart}
use Rattle.plan_spec.proofs.Planning.Behind.{any_from}
use Rattle.plan_spec.proofs.Planning.Safe.{slots_of}
use Rattle.settle_spec.specs.FirstPlace.{Extent, is_spot, ends_by}
use Rattle.settle_spec.specs.Lists.{Request}
use Rattle.settle_spec.specs.Parts.{FunctionPart, bridge_over, class_in, header_parts}
use Rattle.settle_spec.specs.Stands.{rank, part_space, window_part}
use Rattle.settle_spec.specs.Items.{PlacingItem, Placed, AllPlaced, taken_by, bus_items, new_window}
use Rattle.settle_spec.specs.Places.{placed_of, place_among, placed_range, root_ranges}
use Rattle.settle_spec.specs.Kept.{Kept}
use Rattle.settle_spec.specs.Keeping.Places.{space_items, taken_at, placing_on}
use Rattle.settle_spec.specs.PlacingLaws.{PlacesAreApart, ArePlaced}
use Rattle.settle_spec.proofs.FirstSpot.{spot_gives}
use Rattle.settle_laws.specs.KeptLaws.{AreOffBehind}
use Rattle.settle_laws.specs.Keeping.PlacesLaws.{CanSettle}
use Rattle.settle_laws.proofs.Finding.{found, is_found}
use Rattle.settle_laws.proofs.ItemForms.{item_by}
use Rattle.settle_laws.proofs.Keeping.Items.{space_items_are, same_rank}
use Rattle.settle_laws.proofs.Keeping.Kept.{stays_listed, kept_apart}
use Rattle.settle_laws.proofs.Kept.{lie_apart}
use Rattle.settle_laws.proofs.KeptTaken.{there_kept}
use Rattle.settle_laws.proofs.PlacedBus.{pairs_either}

module _ (q : Request) (s : System) (k : Kept) where
  -- the ranges in which an item has its place: those of its root, or the window over its bus
  abbrev pub window_ranges : (ℕ → List Placed) → WindowKind → Option Function → List Range
  window_ranges placed c None = []
  window_ranges placed c (Some b) = if k.stays (window_part c b) then k.range (window_part c b) ∷ [] else placed_range (place_among (window_part c b) (placed b.slot.bus))

  abbrev pub ranges_of_item : (ℕ → List Placed) → PlacingItem → List Range
  ranges_of_item placed i =
      if is_root q.roots i.region.function.slot.bus then root_ranges q i else window_ranges placed i.class (bridge_over s i.region.function.slot.bus)

module _ (q : Request) (s : System) (k : Kept) (can : CanSettle q s k) where
  abbrev new : WindowKind → Function → Extent
  new c b = new_window q s c b

  -- the places on the buses of a space
  abbrev pub places : Space → ℕ → List Placed
  places space over = placed_of (placing_on q s k space over)

  abbrev pub items : WindowKind → ℕ → List PlacingItem
  items c bus = bus_items q s c k.stays (new_window q s c) bus

  pub low_bus : (f : Function) → Contains s f → f.slot.bus < 256
  low_bus f listed = (slots_of s can.system f listed).0

  pub beside_itself : (bus : ℕ) → are_siblings q.roots bus bus ≡ true
  beside_itself bus = or_left (bus == bus) (is_root q.roots bus && is_root q.roots bus) (eq-eqb bus bus refl)

  pub in_space : (c : WindowKind) (bus : ℕ) (i : PlacingItem) → Contains (items c bus) i → Contains (space_items q s k (window_space c) bus) i
  in_space IoWindow bus i has = has
  in_space MemoryWindow bus i has = Contains-append_left (items MemoryWindow bus) (items PrefetchWindow bus) i has
  in_space PrefetchWindow bus i has = Contains-append_right (items MemoryWindow bus) (items PrefetchWindow bus) i has

  -- ---- a bus that is placed

  pub record IsPlacedBus (space : Space) (bus : ℕ) : Type 0 where
    pub placed : List Placed
    pub is : placing_on q s k space bus ≡ AllPlaced placed
    pub are : ArePlaced (ranges_of_item q s k (places space)) (taken_at q s k space bus) (space_items q s k space bus) placed
    pub off : AreOffBehind q placed

  -- the place of an item of such a bus
  pub record HasPlace (space : Space) (f : Function) (p : Part) (placed : List Placed) : Type 0 where
    pub at : Placed
    pub found_there : place_among record { function = f; part = p } placed ≡ Some at
    pub listed : Contains placed at
    pub item : at.item ≡ item_by (new_window q s) (class_in q s f p) f p

  pub place_of : (space : Space) (bus : ℕ) (b : IsPlacedBus space bus) (f : Function) (p : Part) → Contains s f → has_part f p ≡ true
      → Contains (space_items q s k space bus) (item_by (new_window q s) (class_in q s f p) f p) → HasPlace space f p b.placed
  place_of space bus b f p listed there has =
      let r : FunctionPart = record { function = f; part = p } in
      let test = λ (x : Placed). rank x.item.region == rank r in
      let i = item_by (new_window q s) (class_in q s f p) f p in
      let made : IsMade (λ (x : Placed). x.item) b.placed i = in_map_to (λ (x : Placed). x.item) b.placed i (subst (λ xs. Contains xs i) (sym b.are.all) has) in
      let same : rank made.from.item.region ≡ rank r = ap (λ (j : PlacingItem). rank j.region) made.is in
      let one = is_found test b.placed (any_from test b.placed made.from made.has (eq-eqb (rank made.from.item.region) (rank r) same)) in
      let is = found test b.placed one.0 one.1 in
      let own : Contains (space_items q s k space bus) one.0.item = subst (λ xs. Contains xs one.0.item) b.are.all (in_map_from (λ (x : Placed). x.item) b.placed one.0 is.0) in
      record {
        at = one.0;
        found_there = one.1;
        listed = is.0;
        item = same_rank q s k can.system space bus one.0.item (space_items_are q s k space bus one.0.item own) f p listed there (eqb-true (rank one.0.item.region) (rank r) is.1);
      }

  -- ---- where parts of such a bus end

  -- what stays has the addresses that are kept for it, and what is placed has those of its place
  pub data EndsIn (placed : List Placed) (r : FunctionPart) (t : Range) : Type 0 where
    Keeps : (keeps : k.stays r ≡ true) → (is : k.range r ≡ t) → EndsIn placed r t
    Gets : (moves : k.stays r ≡ false) → (x : Placed) → (shown : place_among r placed ≡ Some x) → (has : Contains placed x) → (of : x.item.region ≡ r) → (is : taken_by x.item x.at ≡ t) → EndsIn placed r t

  -- a part beside a bus, of a space
  pub record IsBeside (space : Space) (bus : ℕ) (r : FunctionPart) : Type 0 where
    pub listed : Contains s r.function
    pub there : Contains (header_parts r.function) r.part
    pub beside : are_siblings q.roots bus r.function.slot.bus ≡ true
    pub at : part_space r ≡ space

  pub kept_there : (space : Space) (bus : ℕ) (r : FunctionPart) → IsBeside space bus r → k.stays r ≡ true → Contains (taken_at q s k space bus) (k.range r)
  kept_there space bus r is keeps =
      there_kept q s k space bus (k.range r) record {
        of = r;
        listed = stays_listed q s k can r.function r.part is.listed is.there keeps;
        beside = is.beside;
        at = is.at;
        kept = keeps;
        is = refl;
      }

  -- what is placed is apart from what is taken
  pub off_taken : (space : Space) (bus : ℕ) (b : IsPlacedBus space bus) (x : Placed) (t : Range) → Contains b.placed x → Contains (taken_at q s k space bus) t → LieApart (taken_by x.item x.at) t
  off_taken space bus b x t has taken =
      let own = b.are.each x has in
      let spot = (and_parts (is_spot own.0.first (taken_at q s k space bus) x.item.extent x.at) (ends_by own.0 x.item.extent x.at) own.2).0 in
      (spot_gives own.0.first (taken_at q s k space bus) x.item.extent x.at spot).free t taken

  apart_swap : (r t : Range) → LieApart r t → LieApart t r
  apart_swap r t (inl under) = inr under
  apart_swap r t (inr over) = inl over

  pub end_apart : (space : Space) (bus : ℕ) (b : IsPlacedBus space bus) (r u : FunctionPart) (t v : Range) → IsBeside space bus r → IsBeside space bus u → (rank r ≡ rank u → ⊥) → EndsIn b.placed r t → EndsIn b.placed u v → LieApart t v
  end_apart space bus b r u t v is_r is_u differ (Keeps keeps_r at_r) (Keeps keeps_u at_u) =
      subst (λ w. LieApart w v) at_r (subst (LieApart (k.range r)) at_u
      (kept_apart q s k can bus r u (stays_listed q s k can r.function r.part is_r.listed is_r.there keeps_r) (stays_listed q s k can u.function u.part is_u.listed is_u.there keeps_u)
      keeps_r keeps_u is_r.beside is_u.beside (is_r.at ∙ sym is_u.at) differ))
  end_apart space bus b r u t v is_r is_u differ (Keeps keeps at_r) (Gets moves y shown has of at_u) =
      subst (λ w. LieApart w v) at_r (subst (LieApart (k.range r)) at_u
      (apart_swap (taken_by y.item y.at) (k.range r) (off_taken space bus b y (k.range r) has (kept_there space bus r is_r keeps))))
  end_apart space bus b r u t v is_r is_u differ (Gets moves x shown has of at_r) (Keeps keeps at_u) =
      subst (λ w. LieApart w v) at_r (subst (LieApart (taken_by x.item x.at)) at_u (off_taken space bus b x (k.range u) has (kept_there space bus u is_u keeps)))
  end_apart space bus b r u t v is_r is_u differ (Gets moves_x x shown_x has_x of_x at_r) (Gets moves_y y shown_y has_y of_y at_u) =
      subst (λ w. LieApart w v) at_r (subst (LieApart (taken_by x.item x.at)) at_u
      (elim (pairs_either PlacesAreApart b.placed b.are.apart x y has_x has_y) [
        | inl same ↦ absurd (differ (ap rank (sym of_x ∙ ap (λ (z : Placed). z.item.region) same ∙ of_y)))
        | inr (inl apart) ↦ lie_apart (taken_by x.item x.at) (taken_by y.item y.at) apart
        | inr (inr apart) ↦ apart_swap (taken_by y.item y.at) (taken_by x.item x.at) (lie_apart (taken_by y.item y.at) (taken_by x.item x.at) apart)
      ]))
