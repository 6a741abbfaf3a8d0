-- Room for a spare where nothing is told: no line takes anything, neither on a bus nor behind a window.
use Rattle.std.proofs.Common.{◌≡◌, ◌&&◌, ℕ, zero, suc, List, [], ◌++◌, map, not, true, sym, ◌∙◌, ap, refl, Option, Some, None}
use Rattle.std.specs.Bool.{nat_le, if◌then◌else◌}
use Rattle.std.specs.List.{Contains, filter, list_all}
use Rattle.std.specs.Option.{option_map}
use Rattle.pci_spec.specs.Decoded.{Range}
use Rattle.pci_spec.specs.Window.{WindowKind, has_window}
use Rattle.pci_spec.specs.System.{System, Function, IsSystem, window_space}
use Rattle.pci_spec.specs.Bus.{is_root, secondary, IsNested}
use Rattle.settle_spec.specs.FirstPlace.{Extent, ranges_are_apart, first_spot, first_place}
use Rattle.settle_spec.specs.Lines.{line_range, is_line_behind, keeps_off, lines_behind}
use Rattle.settle_spec.specs.Lists.{Request, class_ranges}
use Rattle.settle_spec.specs.Parts.{FunctionPart, bridge_over}
use Rattle.settle_spec.specs.Stands.{is_fixed_part, window_part}
use Rattle.settle_spec.specs.Items.{highest_in}
use Rattle.settle_spec.specs.Kept.{Kept}
use Rattle.settle_spec.specs.Wishes.{range_then, there_then, taken_then, with_bridge, gained, is_off_lines, can_end_at, Spared, spared_at, held_by, opened_at, spared_if, spared_within}
use Rattle.settle_laws.proofs.Untold.{no_regions, no_lines_on}
use Rattle.settle_laws.proofs.Wishing.ByBus.{spared_by_bus}

module _ (q : Request) (s : System) (c : WindowKind) where
  abbrev pub plain_spot : Function → Extent → Kept → Range → ℕ
  plain_spot b e k w = first_spot w.first (there_then q s k (window_space c) (secondary b)) e

  abbrev pub plain_above : (Function → Extent → Kept → Option Spared) → Function → Extent → Kept → Option Spared
  plain_above above b e k =
      if is_root q.roots b.slot.bus
      then option_map (λ at. record { at = at; kept = k })
      (first_place (class_ranges q c b.slot.bus) (there_then q s k (window_space c) b.slot.bus) e)
      else with_bridge (λ over. above over e k) (bridge_over s b.slot.bus)

  abbrev pub plain_if : (Function → Extent → Kept → Option Spared) → Function → Extent → Kept → Option Range → Option Spared
  plain_if above b e k None =
      if has_window c b.probe && not (is_fixed_part q (window_part c b))
      then option_map (opened_at q s c b e) (plain_above above b (held_by q s c b e) k)
      else None
  plain_if above b e k (Some w) = spared_at q s c b e k (plain_spot b e k w)

  unfoldable pub plain_within : ℕ → Function → Extent → Kept → Option Spared
  plain_within zero b e k = None
  plain_within (suc depth) b e k = plain_if (plain_within depth) b e k (range_then q s k (window_part c b))

  -- ---- where nothing is told it is room for a spare

  module _ (untold : q.told.ranges ≡ []) where
    pub off_lines : (b : Function) (r : Range) → is_off_lines q s c b r ≡ true
    off_lines b r = ap (list_all (λ x. not (keeps_off q x b.slot (window_space c) r))) (no_regions q untold)

    -- whether a window can end at an address is told by what is there alone
    pub end_is : (b : Function) (k : Kept) (w : Range) (last : ℕ) → can_end_at q s c b k w last
        ≡ (not (is_fixed_part q (window_part c b)) && (nat_le last (highest_in c b.probe) && list_all (ranges_are_apart (gained w last)) (there_then q s k (window_space c) b.slot.bus)))
    end_is b k w last = ap
        (λ t. t && not (is_fixed_part q (window_part c b)) && (nat_le last (highest_in c b.probe) && list_all (ranges_are_apart (gained w last)) (there_then q s k (window_space c) b.slot.bus)))
        (off_lines b (gained w last))

    none_behind : (r : FunctionPart) → lines_behind q r ≡ []
    none_behind r = ap (λ xs. map line_range (filter (is_line_behind r) xs)) (no_regions q untold)

    taken_is : (k : Kept) (bus : ℕ) (behind : List Range) → behind ≡ [] → (behind ++ taken_then q s k (window_space c) bus) ≡ there_then q s k (window_space c) bus
    taken_is k bus behind none = (let lines = no_lines_on q untold (window_space c) bus in λ i. none i ++ (lines i ++ there_then q s k (window_space c) bus))

    if_same : (real : Function → Extent → List Range → Kept → Option Spared) (plain : Function → Extent → Kept → Option Spared)
        → ((b : Function) (e : Extent) (behind : List Range) (k : Kept) → behind ≡ [] → real b e behind k ≡ plain b e k)
        → (b : Function) (e : Extent) (behind : List Range) (k : Kept) → behind ≡ [] → (o : Option Range) → spared_if q s c real b e behind k o ≡ plain_if plain b e k o
    if_same real plain same b e behind k none (Some w) = ap (λ xs. spared_at q s c b e k (first_spot w.first xs e)) (taken_is k (secondary b) behind none)
    if_same real plain same b e behind k none None =
        let own = none_behind (window_part c b) in
        let held = held_by q s c b e in
        let taken = taken_is k b.slot.bus (lines_behind q (window_part c b)) own in
        let above : (d : Function) → real d held (lines_behind q (window_part c b)) k ≡ plain d held k = λ d. same d held (lines_behind q (window_part c b)) k own in
        λ i. if has_window c b.probe && not (is_fixed_part q (window_part c b))
        then option_map (opened_at q s c b e)
        (if is_root q.roots b.slot.bus
        then option_map (λ at. record { at = at; kept = k }) (first_place (class_ranges q c b.slot.bus) (taken i) held)
        else with_bridge (λ d. above d i) (bridge_over s b.slot.bus))
        else None

    within_same : (depth : ℕ) (b : Function) (e : Extent) (behind : List Range) (k : Kept) → behind ≡ [] → spared_within q s c depth b e behind k ≡ plain_within depth b e k
    unfolding spared_within plain_within
    within_same zero b e behind k none = refl
    within_same (suc depth) b e behind k none =
        if_same (spared_within q s c depth) (plain_within depth) (within_same depth) b e behind k none (range_then q s k (window_part c b))

    pub plain_is : (b : Function) (e : Extent) (k : Kept) → spared_within q s c 256 b e [] k ≡ plain_within 256 b e k
    plain_is b e k = within_same 256 b e [] k refl

    pub plain_by_bus : IsSystem s → IsNested q.roots s → (b : Function) → Contains s b → (e : Extent) (k : Kept)
        → plain_within 256 b e k ≡ plain_if (plain_within 256) b e k (range_then q s k (window_part c b))
    plain_by_bus system nested b listed e k =
        sym (plain_is b e k)
        ∙ spared_by_bus q s c system nested b listed e [] k
        ∙ if_same (spared_within q s c 256) (plain_within 256) (within_same 256) b e [] k refl (range_then q s k (window_part c b))
