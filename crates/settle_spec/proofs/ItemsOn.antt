-- What holds of each BAR and ROM that is placed and of each new window holds of each item of a bus.
use Rattle.std.proofs.Common.{◌≡◌, ◌&&◌, ℕ, inl, inr, List, [], ◌∷◌, map, Bool, true, false, cond, not, refl, ◌∙◌, ap, subst}
use Rattle.std.specs.List.{Contains, filter, flat_map}
use Rattle.std.proofs.lemmas.Bool.{and_parts, not-true}
use Rattle.std.proofs.lemmas.List.Elements.{Contains-append_cases}
use Rattle.std.proofs.lemmas.List.Sorted.{IsPermutation-sym, Contains-permutation}
use Rattle.pci_spec.specs.Window.{WindowKind, IoWindow, MemoryWindow, PrefetchWindow}
use Rattle.pci_spec.specs.System.{System, Function, Part, Space, Io, Memory, is_bridge, is_window, window_space}
use Rattle.pci_spec.specs.Bus.{are_siblings}
use Rattle.pci_spec.proofs.Members.{in_nil, in_cons_cases, in_flat_map_to, IsInPiece, in_map_to, IsMade, in_filter_to}
use Rattle.plan_spec.specs.Plan.{same_class}
use Rattle.plan_spec.proofs.Planning.OwnItems.{in_cond}
use Rattle.plan_spec.proofs.Planning.PlacedItems.{same_class_is}
use Rattle.settle_spec.specs.FirstPlace.{Extent}
use Rattle.settle_spec.specs.Lists.{Request}
use Rattle.settle_spec.specs.Parts.{FunctionPart, is_part, parts_of, header_parts, function_parts, class_in}
use Rattle.settle_spec.specs.Stands.{window_part}
use Rattle.settle_spec.specs.Items.{PlacingItem, in_turn, own_item, is_own, has_of, items_of, bus_items, new_window}
use Rattle.settle_spec.specs.Keeping.Places.{space_items}
use Rattle.settle_spec.proofs.InTurn.{turn_same}
use Rattle.settle_spec.specs.Kept.{Kept}

-- a function of the system, on the bus or on another root
pub record IsBeside (q : Request) (s : System) (bus : ℕ) (f : Function) : Type 0 where
  pub listed : Contains s f
  pub beside : are_siblings q.roots bus f.slot.bus ≡ true

-- a BAR or ROM of a class that is placed
pub record IsPlacedPart (q : Request) (s : System) (c : WindowKind) (keeps : FunctionPart → Bool) (f : Function) (p : Part) : Type 0 where
  pub there : Contains (header_parts f) p
  pub part : is_part q s f p ≡ true
  pub plain : is_window p ≡ false
  pub class : class_in q s f p ≡ c
  pub moves : keeps record { function = f; part = p } ≡ false

-- a bridge that gets a new window of a class
pub record IsOpened (q : Request) (s : System) (c : WindowKind) (keeps : FunctionPart → Bool) (f : Function) : Type 0 where
  pub bridge : is_bridge f ≡ true
  pub has : has_of q s c f ≡ true
  pub moves : keeps (window_part c f) ≡ false

module _ (q : Request) (s : System) (c : WindowKind) (keeps : FunctionPart → Bool) (extent : Function → Extent) where
  abbrev moves : FunctionPart → Bool
  moves r = is_own q s c r && not (keeps r)

  abbrev opens : Function → Bool
  opens f = is_bridge f && has_of q s c f && not (keeps (window_part c f))

  abbrev window : Function → PlacingItem
  window f = record { region = window_part c f; class = c; extent = extent f }

  pub placed_part : (f : Function) (p : Part) → Contains (parts_of q s f) p → moves record { function = f; part = p } ≡ true → IsPlacedPart q s c keeps f p
  placed_part f p listed is =
      let r : FunctionPart = record { function = f; part = p } in
      let there = in_filter_to (is_part q s f) (header_parts f) p listed in
      let own = and_parts (is_own q s c r) (not (keeps r)) is in
      let of = and_parts (not (is_window p)) (same_class c (class_in q s f p)) own.0 in
      record {
        there = there.0;
        part = there.1;
        plain = not-true (is_window p) of.0;
        class = same_class_is c (class_in q s f p) of.1;
        moves = not-true (keeps r) own.1;
      }

  pub opened : (f : Function) → opens f ≡ true → IsOpened q s c keeps f
  opened f is =
      let both = and_parts (is_bridge f && has_of q s c f) (not (keeps (window_part c f))) is in
      let bridge = and_parts (is_bridge f) (has_of q s c f) both.0 in
      record { bridge = bridge.0; has = bridge.1; moves = not-true (keeps (window_part c f)) both.1 }

  -- of each item of a function
  pub each_of : (f : Function) (P : PlacingItem → Type 0) → ((p : Part) → IsPlacedPart q s c keeps f p → P (own_item c record { function = f; part = p })) → (IsOpened q s c keeps f → P (window f))
      → (i : PlacingItem) → Contains (items_of q s c keeps extent f) i → P i
  each_of f P own new i listed = elim (Contains-append_cases (map (own_item c) (filter moves (function_parts q s f))) (cond (opens f) (window f ∷ []) []) i listed) [
    | inl here ↦
        let made : IsMade (own_item c) (filter moves (function_parts q s f)) i = in_map_to (own_item c) (filter moves (function_parts q s f)) i here in
        let passed = in_filter_to moves (function_parts q s f) made.from made.has in
        let of : IsMade (λ p. record { function = f; part = p }) (parts_of q s f) made.from = in_map_to (λ p. record { function = f; part = p }) (parts_of q s f) made.from passed.0 in
        subst P (ap (own_item c) of.is ∙ made.is) (own of.from (placed_part f of.from of.has (ap moves of.is ∙ passed.1)))
    | inr later ↦
        let split = in_cond (opens f) (window f ∷ []) i later in
        elim (in_cons_cases (window f) [] i split.1) [
          | inl same ↦ subst P same (new (opened f split.0))
          | inr none ↦ absurd (in_nil i none)
        ]
  ]

  abbrev on_bus : ℕ → Function → List PlacingItem
  on_bus bus f = cond (are_siblings q.roots bus f.slot.bus) (items_of q s c keeps extent f) []

  -- of each item of a bus
  pub each_on : (bus : ℕ) (P : PlacingItem → Type 0) → ((f : Function) → IsBeside q s bus f → (p : Part) → IsPlacedPart q s c keeps f p → P (own_item c record { function = f; part = p }))
      → ((f : Function) → IsBeside q s bus f → IsOpened q s c keeps f → P (window f)) → (i : PlacingItem) → Contains (bus_items q s c keeps extent bus) i → P i
  each_on bus P own new i listed =
      let all = flat_map (on_bus bus) s in
      let piece : IsInPiece (on_bus bus) s i = in_flat_map_to (on_bus bus) s i (Contains-permutation (in_turn all) all i (IsPermutation-sym all (in_turn all) (turn_same all)) listed) in
      let split = in_cond (are_siblings q.roots bus piece.of.slot.bus) (items_of q s c keeps extent piece.of) i piece.piece in
      let beside : IsBeside q s bus piece.of = record { listed = piece.has; beside = split.0 } in
      each_of piece.of P (own piece.of beside) (new piece.of beside) i split.1

-- of each item of a bus in a space
pub each_in : (q : Request) (s : System) (k : Kept) (space : Space) (bus : ℕ) (P : PlacingItem → Type 0)
    → ((c : WindowKind) → window_space c ≡ space → (f : Function) → IsBeside q s bus f → (p : Part) → IsPlacedPart q s c k.stays f p → P (own_item c record { function = f; part = p }))
    → ((c : WindowKind) → window_space c ≡ space → (f : Function) → IsBeside q s bus f → IsOpened q s c k.stays f → P record { region = window_part c f; class = c; extent = new_window q s c f })
    → (i : PlacingItem) → Contains (space_items q s k space bus) i → P i
each_in q s k Io bus P own new i listed = each_on q s IoWindow k.stays (new_window q s IoWindow) bus P (own IoWindow refl) (new IoWindow refl) i listed
each_in q s k Memory bus P own new i listed =
    elim (Contains-append_cases (bus_items q s MemoryWindow k.stays (new_window q s MemoryWindow) bus) (bus_items q s PrefetchWindow k.stays (new_window q s PrefetchWindow) bus) i listed) [
      | inl plain ↦ each_on q s MemoryWindow k.stays (new_window q s MemoryWindow) bus P (own MemoryWindow refl) (new MemoryWindow refl) i plain
      | inr prefetch ↦ each_on q s PrefetchWindow k.stays (new_window q s PrefetchWindow) bus P (own PrefetchWindow refl) (new PrefetchWindow refl) i prefetch
    ]
