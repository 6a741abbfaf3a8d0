-- A wish changes what one window has, and leaves what is behind its bridge's bus.
use Rattle.std.proofs.Common.{◌≡◌, ℕ, zero, suc, ◌<◌, ◌≤◌, ap, refl, ◌∙◌, subst, arith, cond, true, false, ◌&&◌, not, List, ◌++◌, Option, Some, None}
use Rattle.std.proofs.Math.Path.{fun_ext}
use Rattle.std.specs.Bool.{◌==◌, nat_le}
use Rattle.std.specs.Option.{option_map, option_or}
use Rattle.std.specs.List.{Contains}
use Rattle.std.proofs.lemmas.Bool.{eq-eqb, false_from_ne_true, eqb-true}
use Rattle.std.proofs.lemmas.List.Elements.{All-contains}
use Rattle.pci_spec.specs.Window.{WindowKind, IoWindow, MemoryWindow, PrefetchWindow, window_register, has_window}
use Rattle.pci_spec.specs.Decoded.{Range}
use Rattle.pci_spec.specs.System.{System, Function, IsFunction, IsSystem, Space, Io, Memory, window_space, space_of}
use Rattle.pci_spec.specs.Bus.{is_root, IsNested}
use Rattle.pci_spec.proofs.BusRanges.{ordered}
use Rattle.plan_spec.specs.Place.{range_from}
use Rattle.settle_spec.specs.FirstPlace.{Extent, first_place}
use Rattle.settle_spec.specs.Lists.{Request, class_ranges}
use Rattle.settle_spec.specs.Parts.{FunctionPart, bridge_over}
use Rattle.settle_spec.specs.Stands.{rank, window_part, is_fixed_part, is_in_lists}
use Rattle.settle_spec.specs.Items.{Placed, taken_by, place_each}
use Rattle.settle_spec.specs.Places.{placed_of, place_among}
use Rattle.settle_spec.specs.Kept.{Kept}
use Rattle.settle_spec.specs.Keeping.Places.{space_items, taken_at, place_of_item, placing_within}
use Rattle.settle_spec.specs.Lines.{lines_behind, taken_for}
use Rattle.settle_spec.specs.Wishes.{place_then, range_then, taken_then, with_window, with_bridge, ending_at, end_over, Spared, can_end_at, with_room_above, ending_if, ending_within, ending, range_of_window, spot_behind, spared_above, held_by, opened_at, spared_if, spared_within}
use Rattle.settle_spec.proofs.BridgeOver.{over_leads}

-- ---- what is placed hangs on no wish

abbrev pub wishing : Kept → (FunctionPart → Option Range) → Kept
wishing k wished = record k { wished = wished }

module _ (q : Request) (s : System) (k : Kept) (wished : FunctionPart → Option Range) where
  placing_same : (space : Space) (depth bus : ℕ) → placing_within q s (wishing k wished) space depth bus ≡ placing_within q s k space depth bus
  unfolding placing_within
  placing_same space zero bus = refl
  placing_same Io (suc depth) bus =
      ap (λ (placed : ℕ → List Placed). place_each (λ i taken. place_of_item q s k placed i (taken_for q i.region taken)) (taken_at q s k Io bus) (space_items q s k Io bus))
      (fun_ext (λ b. ap placed_of (placing_same Io depth b)))
  placing_same Memory (suc depth) bus =
      ap (λ (placed : ℕ → List Placed). place_each (λ i taken. place_of_item q s k placed i (taken_for q i.region taken)) (taken_at q s k Memory bus) (space_items q s k Memory bus))
      (fun_ext (λ b. ap placed_of (placing_same Memory depth b)))

  pub place_same : (r : FunctionPart) → place_then q s (wishing k wished) r ≡ place_then q s k r
  place_same r =
      ap (λ p. cond (k.stays r) (Some (k.range r)) (option_map (λ (p : Placed). taken_by p.item p.at) (place_among r (placed_of p))))
      (placing_same (space_of r.function r.part) 256 r.function.slot.bus)

module _ (q : Request) (s : System) (w : FunctionPart) (range : Range) (k : Kept) where
  abbrev wished_with : FunctionPart → Option Range
  wished_with r = cond (rank r == rank w) (Some range) (k.wished r)

  pub placed_with : (r : FunctionPart) → place_then q s (with_window w range k) r ≡ place_then q s k r
  placed_with r = place_same q s k wished_with r

  pub wished_at : (r : FunctionPart) → rank r ≡ rank w → (with_window w range k).wished r ≡ Some range
  wished_at r same = ap (λ b. cond b (Some range) (k.wished r)) (eq-eqb (rank r) (rank w) same)

  pub wished_other : (r : FunctionPart) → (rank r ≡ rank w → ⊥) → (with_window w range k).wished r ≡ k.wished r
  wished_other r other = ap (λ b. cond b (Some range) (k.wished r)) (false_from_ne_true (rank r == rank w) (λ e. other (eqb-true (rank r) (rank w) e)))

  pub range_at : (r : FunctionPart) → rank r ≡ rank w → range_then q s (with_window w range k) r ≡ Some range
  range_at r same = ap (λ o. option_or o (place_then q s (with_window w range k) r)) (wished_at r same)

  pub range_other : (r : FunctionPart) → (rank r ≡ rank w → ⊥) → range_then q s (with_window w range k) r ≡ range_then q s k r
  range_other r other =
      ap (λ o. option_or o (place_then q s (with_window w range k) r)) (wished_other r other)
      ∙ ap (option_or (k.wished r)) (placed_with r)

-- ---- parts on buses behind one keep what they have

pub record AreSameBehind (q : Request) (s : System) (bus : ℕ) (k j : Kept) : Type 0 where
  pub placed : (r : FunctionPart) → place_then q s j r ≡ place_then q s k r
  pub wished : (r : FunctionPart) → bus < r.function.slot.bus → j.wished r ≡ k.wished r

window_low : (c : WindowKind) → window_register c ≤ 0x24
window_low IoWindow = omega arith
window_low MemoryWindow = omega arith
window_low PrefetchWindow = omega arith

module _ (q : Request) (s : System) (system : IsSystem s) (nested : IsNested q.roots s) where
  pub same_range : (bus : ℕ) (k j : Kept) → AreSameBehind q s bus k j → (r : FunctionPart) → bus < r.function.slot.bus → range_then q s j r ≡ range_then q s k r
  same_range bus k j same r behind =
      ap (λ o. option_or o (place_then q s j r)) (same.wished r behind) ∙ ap (option_or (k.wished r)) (same.placed r)

  same_self : (bus : ℕ) (k : Kept) → AreSameBehind q s bus k k
  same_self bus k = record { placed = λ r. refl; wished = λ r behind. refl }

  -- the window of a bridge has a lower rank than what is on a bus behind the bridge's
  rank_behind : (b : Function) → Contains s b → (c : WindowKind) (r : FunctionPart) → b.slot.bus < r.function.slot.bus → rank r ≡ rank (window_part c b) → ⊥
  rank_behind b listed c r behind same =
      let slot = (All-contains IsFunction s b system.each listed).slot in
      let device = slot.1 in
      let function = slot.2 in
      let low = window_low c in
      omega (arith, device, function, low, behind, same)

  -- the bridge over a bus is on a lower one
  pub over_lower : (b over : Function) → bridge_over s b.slot.bus ≡ Some over → over.slot.bus < b.slot.bus
  over_lower b over e =
      let leads = over_leads s b.slot.bus over e in
      let order = (ordered over (nested.order over leads.0 leads.1)).up in
      let to = leads.2 in
      omega (arith, order, to)

  abbrev Keeps : ℕ → Kept → Option Kept → Type 0
  Keeps bus k None = Unit {0}
  Keeps bus k (Some j) = AreSameBehind q s bus k j

  module _ (c : WindowKind) where
    with_keeps : (b : Function) → Contains s b → (bus : ℕ) → bus ≤ b.slot.bus → (range : Range) (k j : Kept) → AreSameBehind q s bus k j
        → AreSameBehind q s b.slot.bus k (with_window (window_part c b) range j)
    with_keeps b listed bus low range k j same = record {
      placed = λ r. placed_with q s (window_part c b) range j r ∙ same.placed r;
      wished = λ r behind. wished_other q s (window_part c b) range j r (rank_behind b listed c r behind) ∙ same.wished r (omega (arith, low, behind));
    }

    map_keeps : (b : Function) → Contains s b → (range : Range) (k : Kept) (o : Option Kept) → Keeps b.slot.bus k o
        → Keeps b.slot.bus k (option_map (with_window (window_part c b) range) o)
    map_keeps b listed range k None keeps = tt
    map_keeps b listed range k (Some j) keeps = with_keeps b listed b.slot.bus (omega arith) range k j keeps

    weaker : (low bus : ℕ) → low ≤ bus → (k : Kept) (o : Option Kept) → Keeps low k o → Keeps bus k o
    weaker low bus less k None keeps = tt
    weaker low bus less k (Some j) keeps = record { placed = keeps.placed; wished = λ r behind. keeps.wished r (omega (arith, less, behind)) }

    module _ (b : Function) (listed : Contains s b) (k : Kept) (above : Function → ℕ → Kept → Option Kept) (each : (over : Function) → Contains s over → (last : ℕ) → Keeps over.slot.bus k (above over last k)) where
      above_keeps : (w : Range) → Keeps b.slot.bus k (with_room_above q s c above b w k)
      above_keeps w = elim (is_root q.roots b.slot.bus) as (λ root. Keeps b.slot.bus k (cond root (cond (is_in_lists q b.slot.bus w (window_space c)) (Some k) None) (with_bridge (λ over. above over w.last k) (bridge_over s b.slot.bus)))) [
        | true ↦ elim (is_in_lists q b.slot.bus w (window_space c)) as (λ held. Keeps b.slot.bus k (cond held (Some k) None)) [ true ↦ same_self b.slot.bus k | false ↦ tt ]
        | false ↦ elim (bridge_over s b.slot.bus) as (λ (o : Option Function). bridge_over s b.slot.bus ≡ o → Keeps b.slot.bus k (with_bridge (λ over. above over w.last k) o)) [
          | None ↦ λ e. tt
          | Some over ↦ λ e.
              let lower = over_lower b over e in
              weaker over.slot.bus b.slot.bus (omega (arith, lower)) k (above over w.last k) (each over (over_leads s b.slot.bus over e).0 w.last)
        ] refl
      ]

      if_keeps : (last : ℕ) (o : Option Range) → Keeps b.slot.bus k (ending_if q s c above b last k o)
      if_keeps last None = tt
      if_keeps last (Some w) = elim (nat_le last w.last) as (λ enough. Keeps b.slot.bus k (cond enough (Some k) (cond (can_end_at q s c b k w (end_over c w last)) (option_map (with_window (window_part c b) (ending_at w (end_over c w last))) (with_room_above q s c above b (ending_at w (end_over c w last)) k)) None))) [
        | true ↦ same_self b.slot.bus k
        | false ↦ elim (can_end_at q s c b k w (end_over c w last)) as (λ can. Keeps b.slot.bus k (cond can (option_map (with_window (window_part c b) (ending_at w (end_over c w last))) (with_room_above q s c above b (ending_at w (end_over c w last)) k)) None)) [
          | true ↦ map_keeps b listed (ending_at w (end_over c w last)) k (with_room_above q s c above b (ending_at w (end_over c w last)) k) (above_keeps (ending_at w (end_over c w last)))
          | false ↦ tt
        ]
      ]

    ending_keeps : (depth : ℕ) (b : Function) → Contains s b → (last : ℕ) (k : Kept) → Keeps b.slot.bus k (ending_within q s c depth b last k)
    unfolding ending_within
    ending_keeps zero b listed last k = tt
    ending_keeps (suc depth) b listed last k =
        if_keeps b listed k (ending_within q s c depth) (λ over in_s end. ending_keeps depth over in_s end k) last (range_of_window q s c b k)

    -- where an open window ends later, what is behind its bridge's bus is the same
    pub ended_same : (depth : ℕ) (b : Function) → Contains s b → (last : ℕ) (k j : Kept) → ending_within q s c depth b last k ≡ Some j → AreSameBehind q s b.slot.bus k j
    ended_same depth b listed last k j is = subst (Keeps b.slot.bus k) is (ending_keeps depth b listed last k)

    -- ---- the same of spares

    abbrev KeepsSpared : ℕ → Kept → Option Spared → Type 0
    KeepsSpared bus k None = Unit {0}
    KeepsSpared bus k (Some found) = AreSameBehind q s bus k found.kept

    spared_weaker : (low bus : ℕ) → low ≤ bus → (k : Kept) (o : Option Spared) → KeepsSpared low k o → KeepsSpared bus k o
    spared_weaker low bus less k None keeps = tt
    spared_weaker low bus less k (Some j) keeps = record { placed = keeps.placed; wished = λ r behind. keeps.wished r (omega (arith, less, behind)) }

    at_keeps : (bus at : ℕ) (k : Kept) (o : Option Kept) → Keeps bus k o → KeepsSpared bus k (option_map (λ kept. record { at = at; kept = kept }) o)
    at_keeps bus at k None keeps = tt
    at_keeps bus at k (Some j) keeps = keeps

    place_keeps : (bus : ℕ) (k : Kept) (o : Option ℕ) → KeepsSpared bus k (option_map (λ at. record { at = at; kept = k }) o)
    place_keeps bus k None = tt
    place_keeps bus k (Some at) = same_self bus k

    opened_keeps : (b : Function) → Contains s b → (e : Extent) (k : Kept) (o : Option Spared) → KeepsSpared b.slot.bus k o → KeepsSpared b.slot.bus k (option_map (opened_at q s c b e) o)
    opened_keeps b listed e k None keeps = tt
    opened_keeps b listed e k (Some found) keeps = with_keeps b listed b.slot.bus (omega arith) _ k found.kept keeps

    module _ (b : Function) (listed : Contains s b) (k : Kept) (above : Function → Extent → List Range → Kept → Option Spared) (each : (over : Function) → Contains s over → (d : Extent) (behind : List Range) → KeepsSpared over.slot.bus k (above over d behind k)) where
      spared_above_keeps : (d : Extent) → KeepsSpared b.slot.bus k (spared_above q s c above b d k)
      spared_above_keeps d = elim (is_root q.roots b.slot.bus) as (λ root. KeepsSpared b.slot.bus k (cond root (option_map (λ at. record { at = at; kept = k }) (first_place (class_ranges q c b.slot.bus) (lines_behind q (window_part c b) ++ taken_then q s k (window_space c) b.slot.bus) d)) (with_bridge (λ over. above over d (lines_behind q (window_part c b)) k) (bridge_over s b.slot.bus)))) [
        | true ↦ place_keeps b.slot.bus k (first_place (class_ranges q c b.slot.bus) (lines_behind q (window_part c b) ++ taken_then q s k (window_space c) b.slot.bus) d)
        | false ↦ elim (bridge_over s b.slot.bus) as (λ (o : Option Function). bridge_over s b.slot.bus ≡ o → KeepsSpared b.slot.bus k (with_bridge (λ over. above over d (lines_behind q (window_part c b)) k) o)) [
          | None ↦ λ is. tt
          | Some over ↦ λ is.
              let lower = over_lower b over is in
              spared_weaker over.slot.bus b.slot.bus (omega (arith, lower)) k (above over d (lines_behind q (window_part c b)) k) (each over (over_leads s b.slot.bus over is).0 d (lines_behind q (window_part c b)))
        ] refl
      ]

      spared_if_keeps : (e : Extent) (behind : List Range) (o : Option Range) → KeepsSpared b.slot.bus k (spared_if q s c above b e behind k o)
      spared_if_keeps e behind None = elim (has_window c b.probe && not (is_fixed_part q (window_part c b))) as (λ can. KeepsSpared b.slot.bus k (cond can (option_map (opened_at q s c b e) (spared_above q s c above b (held_by q s c b e) k)) None)) [
        | true ↦ opened_keeps b listed e k (spared_above q s c above b (held_by q s c b e) k) (spared_above_keeps (held_by q s c b e))
        | false ↦ tt
      ]
      spared_if_keeps e behind (Some w) = elim (nat_le (range_from (spot_behind q s c b e behind k w) e.size).last e.highest) as (λ fits. KeepsSpared b.slot.bus k (cond fits (option_map (λ kept. record { at = spot_behind q s c b e behind k w; kept = kept }) (ending q s c b (range_from (spot_behind q s c b e behind k w) e.size).last k)) None)) [
        | true ↦ at_keeps b.slot.bus (spot_behind q s c b e behind k w) k (ending q s c b (range_from (spot_behind q s c b e behind k w) e.size).last k) (ending_keeps 256 b listed (range_from (spot_behind q s c b e behind k w) e.size).last k)
        | false ↦ tt
      ]

    spared_keeps : (depth : ℕ) (b : Function) → Contains s b → (e : Extent) (behind : List Range) (k : Kept) → KeepsSpared b.slot.bus k (spared_within q s c depth b e behind k)
    unfolding spared_within
    spared_keeps zero b listed e behind k = tt
    spared_keeps (suc depth) b listed e behind k =
        spared_if_keeps b listed k (spared_within q s c depth) (λ over in_s d held. spared_keeps depth over in_s d held k) e behind (range_of_window q s c b k)

    pub spared_same : (depth : ℕ) (b : Function) → Contains s b → (e : Extent) (behind : List Range) (k : Kept) (found : Spared) → spared_within q s c depth b e behind k ≡ Some found → AreSameBehind q s b.slot.bus k found.kept
    spared_same depth b listed e behind k found is = subst (KeepsSpared b.slot.bus k) is (spared_keeps depth b listed e behind k)
