-- Places beside what is kept are told bus by bus: those of a bus by the bus on which the bridge to it stands.
use Rattle.std.proofs.Common.{◌≡◌, ℕ, zero, suc, ◌<◌, inl, inr, List, [], ◌++◌, map, Bool, true, cond, ◌&&◌, arith, sym, ◌∙◌, ap, refl, Option, None, Some}
use Rattle.std.specs.List.{Contains, filter, flat_map}
use Rattle.std.proofs.Math.Path.{fun_ext}
use Rattle.std.proofs.lemmas.Bool.{cases_Bool}
use Rattle.std.proofs.lemmas.List.Elements.{Contains-append_cases}
use Rattle.pci_spec.specs.Decoded.{Range}
use Rattle.pci_spec.specs.Window.{WindowKind, IoWindow, MemoryWindow, PrefetchWindow}
use Rattle.pci_spec.specs.System.{System, Function, Space, Io, Memory, IsSystem}
use Rattle.pci_spec.specs.Bus.{is_root, are_siblings, IsNested}
use Rattle.plan_spec.proofs.Planning.Safe.{order_of}
use Rattle.settle_spec.specs.FirstPlace.{first_place}
use Rattle.judge_spec.specs.ToldRegion.{ToldRegion, told_regions}
use Rattle.settle_spec.specs.Lines.{line_bus, line_range, taken_for}
use Rattle.settle_spec.specs.Lists.{Request}
use Rattle.settle_spec.specs.Parts.{FunctionPart, system_parts, bridge_over, are_same_space}
use Rattle.settle_spec.specs.Stands.{window_part, part_space}
use Rattle.settle_spec.specs.Items.{PlacingItem, Placed, in_turn, items_of, bus_items, new_window, place_each}
use Rattle.settle_spec.specs.Places.{root_ranges, placed_of, place_among, placed_range}
use Rattle.settle_spec.specs.Kept.{Kept}
use Rattle.settle_spec.specs.Keeping.Places.{space_items, taken_at, place_behind, place_of_item, placing_within, placing_on}
use Rattle.settle_spec.proofs.ItemsOn.{IsBeside, each_on}
use Rattle.settle_spec.proofs.BridgeOver.{over_leads}
use Rattle.settle_spec.proofs.Buses.{on_it, one_bus, each_same}
use Rattle.settle_laws.proofs.Untold.{plain_finds}

module _ (q : Request) (s : System) (k : Kept) where
  -- ---- the items of a bus are of its functions

  of_class : (c : WindowKind) (bus : ℕ) (i : PlacingItem) → Contains (bus_items q s c k.stays (new_window q s c) bus) i → IsBeside q s bus i.region.function
  of_class c bus = each_on q s c k.stays (new_window q s c) bus (λ i. IsBeside q s bus i.region.function) (λ f on p is. on) (λ f on is. on)

  pub of_space : (space : Space) (bus : ℕ) (i : PlacingItem) → Contains (space_items q s k space bus) i → IsBeside q s bus i.region.function
  of_space Io bus i has = of_class IoWindow bus i has
  of_space Memory bus i has =
      elim (Contains-append_cases (bus_items q s MemoryWindow k.stays (new_window q s MemoryWindow) bus) (bus_items q s PrefetchWindow k.stays (new_window q s PrefetchWindow) bus) i has) [
        | inl plain ↦ of_class MemoryWindow bus i plain
        | inr prefetch ↦ of_class PrefetchWindow bus i prefetch
      ]

  -- ---- as many buses as there are above one another are enough

  pub placing_step : (space : Space) (depth bus : ℕ)
      → placing_within q s k space (suc depth) bus ≡ place_each (λ i xs. place_of_item q s k (λ over. placed_of (placing_within q s k space depth over)) i (taken_for q i.region xs)) (taken_at q s k space bus) (space_items q s k space bus)
  unfolding placing_within
  placing_step space depth bus = refl

  -- where nothing is told nothing more is taken for new windows
  pub plain_step : q.told.ranges ≡ [] → (space : Space) (depth bus : ℕ)
      → placing_within q s k space (suc depth) bus ≡ place_each (place_of_item q s k (λ over. placed_of (placing_within q s k space depth over))) (taken_at q s k space bus) (space_items q s k space bus)
  plain_step untold space depth bus =
      placing_step space depth bus
      ∙ plain_finds q untold (place_of_item q s k (λ over. placed_of (placing_within q s k space depth over))) (taken_at q s k space bus) (space_items q s k space bus)

  module _ (system : IsSystem s) (nested : IsNested q.roots s) where
    behind_by : (d e : ℕ → List Placed) (bus : ℕ) → ((over : ℕ) → over < bus → d over ≡ e over) → (i : PlacingItem) (xs : List Range) (o : Option Function) → bridge_over s bus ≡ o
        → place_behind k d i xs o ≡ place_behind k e i xs o
    behind_by d e bus same i xs None over = refl
    behind_by d e bus same i xs (Some b) over =
        let leads = over_leads s bus b over in
        let up = order_of q.roots s nested b leads.0 leads.1 in
        let to = leads.2 in
        ap (λ placed. cond (k.stays (window_part i.class b)) (k.place b i xs) (first_place (placed_range (place_among (window_part i.class b) placed)) xs i.extent)) (same b.slot.bus (omega (arith, up, to)))

    -- an item's place is told by what is on lower buses
    place_by : (d e : ℕ → List Placed) (bus : ℕ) → ((over : ℕ) → over < bus → d over ≡ e over) → (i : PlacingItem) (xs : List Range) → IsBeside q s bus i.region.function → place_of_item q s k d i xs ≡ place_of_item q s k e i xs
    place_by d e bus same i xs of =
        let on = i.region.function.slot.bus in
        elim (cases_Bool (is_root q.roots on)) [
          | inl root ↦
              ap (λ b. cond b (first_place (root_ranges q i) xs i.extent) (place_behind k d i xs (bridge_over s on))) root
              ∙ sym (ap (λ b. cond b (first_place (root_ranges q i) xs i.extent) (place_behind k e i xs (bridge_over s on))) root)
          | inr off ↦
              let here = on_it q s system nested bus on of.beside off in
              ap (λ b. cond b (first_place (root_ranges q i) xs i.extent) (place_behind k d i xs (bridge_over s on))) off
              ∙ behind_by d e on (λ over low. same over (omega (arith, low, here))) i xs (bridge_over s on) refl
              ∙ sym (ap (λ b. cond b (first_place (root_ranges q i) xs i.extent) (place_behind k e i xs (bridge_over s on))) off)
        ]

    abbrev on_lower : Space → ℕ → PlacingItem → List Range → Option ℕ
    on_lower space depth i xs = place_of_item q s k (λ over. placed_of (placing_within q s k space depth over)) i (taken_for q i.region xs)

    enough : (space : Space) (d e bus : ℕ) → bus < d → bus < e → placing_within q s k space d bus ≡ placing_within q s k space e bus
    enough space zero e bus hd he = absurd (let no : ⊥ = omega (arith, hd) in no)
    enough space (suc d) zero bus hd he = absurd (let no : ⊥ = omega (arith, he) in no)
    enough space (suc d) (suc e) bus hd he =
        placing_step space d bus
        ∙ each_same (on_lower space d) (on_lower space e) (taken_at q s k space bus) (space_items q s k space bus)
        (λ i xs listed. place_by (λ over. placed_of (placing_within q s k space d over)) (λ over. placed_of (placing_within q s k space e over)) bus
        (λ over low. ap placed_of (enough space d e over (omega (arith, low, hd)) (omega (arith, low, he)))) i (taken_for q i.region xs) (of_space space bus i listed))
        ∙ sym (placing_step space e bus)

    pub placing_by_bus : (space : Space) (bus : ℕ) → bus < 256
        → placing_on q s k space bus ≡ place_each (λ i xs. place_of_item q s k (λ over. placed_of (placing_on q s k space over)) i (taken_for q i.region xs)) (taken_at q s k space bus) (space_items q s k space bus)
    placing_by_bus space bus low =
        placing_step space 255 bus
        ∙ each_same (on_lower space 255) (on_lower space 256) (taken_at q s k space bus) (space_items q s k space bus)
        (λ i xs listed. place_by (λ over. placed_of (placing_within q s k space 255 over)) (λ over. placed_of (placing_within q s k space 256 over)) bus
        (λ over under. ap placed_of (enough space 255 256 over (omega (arith, under, low)) (omega (arith, under, low)))) i (taken_for q i.region xs) (of_space space bus i listed))

    pub plain_by_bus : q.told.ranges ≡ [] → (space : Space) (bus : ℕ) → bus < 256
        → placing_on q s k space bus ≡ place_each (place_of_item q s k (λ over. placed_of (placing_on q s k space over))) (taken_at q s k space bus) (space_items q s k space bus)
    plain_by_bus untold space bus low =
        placing_by_bus space bus low
        ∙ plain_finds q untold (place_of_item q s k (λ over. placed_of (placing_on q s k space over))) (taken_at q s k space bus) (space_items q s k space bus)

  -- ---- all roots are one bus

  abbrev items_by : WindowKind → (ℕ → Bool) → List PlacingItem
  items_by c beside = in_turn (flat_map (λ (f : Function). cond (beside f.slot.bus) (items_of q s c k.stays (new_window q s c) f) []) s)

  abbrev items_in : Space → (ℕ → Bool) → List PlacingItem
  items_in Io beside = items_by IoWindow beside
  items_in Memory beside = items_by MemoryWindow beside ++ items_by PrefetchWindow beside

  abbrev taken_in : Space → (ℕ → Bool) → List Range
  taken_in space beside = map line_range (filter (λ (x : ToldRegion). beside (line_bus x) && are_same_space space x.told.space) (told_regions q.told)) ++ map k.range (filter (λ (r : FunctionPart). beside r.function.slot.bus && are_same_space space (part_space r) && k.stays r) (system_parts q s))

  items_are : (space : Space) (bus : ℕ) → space_items q s k space bus ≡ items_in space (are_siblings q.roots bus)
  items_are Io bus = refl
  items_are Memory bus = refl

  pub roots_are_one : (space : Space) (root other : ℕ) → is_root q.roots root ≡ true → is_root q.roots other ≡ true → placing_on q s k space root ≡ placing_on q s k space other
  roots_are_one space root other is_one is_other =
      let same : are_siblings q.roots root ≡ are_siblings q.roots other = fun_ext (λ bus. one_bus q.roots root other bus is_one is_other) in
      let lower : PlacingItem → List Range → Option ℕ = λ i xs. place_of_item q s k (λ over. placed_of (placing_within q s k space 255 over)) i (taken_for q i.region xs) in
      placing_step space 255 root
      ∙ ap (λ items. place_each lower (taken_at q s k space root) items) (items_are space root ∙ ap (items_in space) same ∙ sym (items_are space other))
      ∙ ap (λ taken. place_each lower taken (space_items q s k space other)) (ap (taken_in space) same)
      ∙ sym (placing_step space 255 other)
