-- The system with the planned numbers is planned and sound, and everything stands at its place.
use Rattle.std.proofs.Common.{◌≡◌, ℕ, ◌<◌, inl, inr, List, [], ◌∷◌, ◌++◌, refl, Bool, true, false, None, Some, arith, sym, ◌∙◌, ap, subst, map}
use Rattle.std.specs.Bool.{if◌then◌else◌}
use Rattle.std.specs.List.{Contains, AllZip, range_with_len}
use Rattle.std.proofs.lemmas.Bool.{both_ways}
use Rattle.std.proofs.lemmas.List.Elements.{Contains-append_cases}
use Rattle.pci_spec.specs.Header.{layout, bar_count}
use Rattle.pci_spec.specs.Window.{WindowKind, has_window, is_wide_window, bounds_at, is_closed, closed_bounds}
use Rattle.pci_spec.specs.Bar.{has_bar}
use Rattle.pci_spec.specs.Decoded.{Range, window_range}
use Rattle.pci_spec.specs.System.{System, Function, Part, Bar, Rom, Window, is_bridge, is_implemented, bars_and_rom}
use Rattle.pci_spec.specs.Sound.{IsSound}
use Rattle.plan_spec.specs.Plan.{Pools, class_of, has_behind, IsMoved, IsPlanned}
use Rattle.plan_spec.specs.Place.{part_item, window_item, place_of, first_of, nibble_of, range_from, IsPlaced}
use Rattle.plan_spec.specs.Planning.Layout.{range_of, IsLaidOut}
use Rattle.plan_spec.specs.Planning.Numbers.{place_at, IsPlannedFunction}
use Rattle.plan_spec.specs.Planning.Plannable.{IsPlannable}
use Rattle.plan_spec.specs.Planning.Promise.{IsFinal}
use Rattle.plan_spec.specs.Planning.Table.{IsTable}
use Rattle.pci_spec.proofs.Members.{in_nil, in_cons_cases, in_filter_to, in_map_to, IsMade, in_range_to}
use Rattle.plan_spec.proofs.Planning.Moved.{bridge_same}
use Rattle.pci_spec.proofs.Pairs.{member_back}
use Rattle.plan_spec.proofs.Planning.Classes.{class_stays}
use Rattle.plan_spec.proofs.Planning.Behind.{listed_plain}
use Rattle.plan_spec.proofs.Planning.Planned.{parts_same, has_behind_same, planned_by_table, sound_by_table}
use Rattle.plan_spec.proofs.Planning.Tables.{laid_out_by_table}
use Rattle.plan_spec.proofs.Planning.NumbersFit.{is_function}
use Rattle.plan_spec.proofs.Planning.SamePlaces.{part_same, window_same, place_same}
use Rattle.plan_spec.proofs.Planning.Shown.{planned_is_moved, bar_range, rom_range, opened_window, closed_window}
use Rattle.plan_spec.proofs.Planning.ShownSystem.{planned_pairs, all_shown, switched_on}

-- ---- the parts of a function

abbrev index_of : Part → ℕ
index_of (Bar n) = n
index_of Rom = 0
index_of (Window kind) = 0

abbrev is_bar : Part → Bool
is_bar (Bar n) = true
is_bar Rom = false
is_bar (Window kind) = false

-- a listed BAR is one of the header's, and implemented
listed_bar : (f : Function) (n : ℕ) → Contains (bars_and_rom f) (Bar n) → (n < bar_count (layout f.image)) × (has_bar f.probe n ≡ true)
listed_bar f n listed =
    let kept = in_filter_to (is_implemented f) (map Bar (range_with_len 0 (bar_count (layout f.image))) ++ Rom ∷ []) (Bar n) listed in (
      elim (Contains-append_cases (map Bar (range_with_len 0 (bar_count (layout f.image)))) (Rom ∷ []) (Bar n) kept.0) [
        | inl bar ↦
            let made : IsMade Bar (range_with_len 0 (bar_count (layout f.image))) (Bar n) = in_map_to Bar (range_with_len 0 (bar_count (layout f.image))) (Bar n) bar in
            let range = in_range_to 0 (bar_count (layout f.image)) made.from made.has in
            let same : made.from ≡ n = ap index_of made.is in
            let below = range.1 in
            omega (arith, below, same)
        | inr rom ↦ elim (in_cons_cases Rom [] (Bar n) rom) [
          | inl is ↦ absurd (both_ways (is_bar Rom) refl (ap is_bar is))
          | inr none ↦ absurd (in_nil (Bar n) none)
        ]
      ],
      kept.1,
    )

module _ (roots : List ℕ) (s t : System) (pools : Pools) (p : IsPlannable roots s pools) (tables : (c : WindowKind) → IsTable roots s pools c (place_at roots s pools))
    (planned : AllZip (IsPlannedFunction roots s pools) s t) where
  pairs : AllZip IsMoved s t
  pairs = planned_pairs roots s t pools p tables planned

  -- ---- BARs and ROMs

  place_of_part : (f g : Function) → Contains s f → IsPlannedFunction roots s pools f g → (part : Part)
      → place_of roots t pools (class_of t pools g part) (part_item g part) ≡ place_of roots s pools (class_of s pools f part) (part_item f part)
  place_of_part f g listed filled part =
      let m = planned_is_moved roots s pools p tables f g listed filled in
      let c = class_of s pools f part in
      ap (λ d. place_of roots t pools d (part_item g part)) (class_stays s t p.system pairs pools f g m part)
      ∙ place_same s t p.system pairs pools c roots (part_item f part) (part_item g part) (part_same s t p.system pairs pools c f g listed m part)

  part_placed : (f g : Function) → Contains s f → IsPlannedFunction roots s pools f g → (part : Part) → Contains (bars_and_rom f) part
      → first_of g part ≡ place_of roots s pools (class_of s pools f part) (part_item f part)
  part_placed f g listed filled (Bar n) there =
      let is = listed_bar f n there in
      ap (λ (r : Range). r.first) (bar_range roots s pools p tables f g listed filled n is.0 is.1)
  part_placed f g listed filled Rom there =
      let has = (in_filter_to (is_implemented f) (map Bar (range_with_len 0 (bar_count (layout f.image))) ++ Rom ∷ []) Rom there).1 in
      ap (λ (r : Range). r.first) (rom_range roots s pools p tables f g listed filled has)
  part_placed f g listed filled (Window kind) there = absurd (both_ways true (listed_plain f (Window kind) there) refl)

  parts_placed : (g : Function) (part : Part) → Contains t g → Contains (bars_and_rom g) part → first_of g part ≡ place_of roots t pools (class_of t pools g part) (part_item g part)
  parts_placed g part in_g there =
      let found = member_back (IsPlannedFunction roots s pools) s t planned g in_g in
      let f = found.0 in
      let m = planned_is_moved roots s pools p tables f g found.1 found.2 in
      let was : Contains (bars_and_rom f) part = subst (λ parts. Contains parts part) (parts_same f g m (is_function roots s pools p tables f found.1)) there in
      part_placed f g found.1 found.2 part was ∙ sym (place_of_part f g found.1 found.2 part)

  -- ---- windows

  record OldBridge (g : Function) : Type 0 where
    f : Function
    listed : Contains s f
    filled : IsPlannedFunction roots s pools f g
    moved : IsMoved f g
    bridge : is_bridge f ≡ true

  old_bridge : (g : Function) → Contains t g → is_bridge g ≡ true → OldBridge g
  old_bridge g in_g bridge =
      let found = member_back (IsPlannedFunction roots s pools) s t planned g in_g in
      let m = planned_is_moved roots s pools p tables found.0 g found.1 found.2 in
      record {
        f = found.0;
        listed = found.1;
        filled = found.2;
        moved = m;
        bridge = sym (bridge_same found.0 g m (is_function roots s pools p tables found.0 found.1).image) ∙ bridge;
      }

  open_range : (kind : WindowKind) (g : Function) (r : Range) → range_of g (Window kind) ≡ r → is_closed kind g.image ≡ false → window_range kind g.image ≡ Some r
  open_range kind g r shown opened = ap (λ b. if b then None else Some (range_of g (Window kind))) opened ∙ ap Some shown

  window_opened : (g : Function) (kind : WindowKind) → Contains t g → is_bridge g ≡ true → has_window kind g.probe ≡ true → has_behind t pools kind g ≡ true
      → window_range kind g.image ≡ Some (range_from (place_of roots t pools kind (window_item t pools kind g)) (window_item t pools kind g).size)
  window_opened g kind in_g bridge there has =
      let o = old_bridge g in_g bridge in
      let f = o.f in
      let was : has_behind s pools kind f ≡ true = sym (has_behind_same s t p.system pairs pools kind f g o.listed o.moved o.bridge) ∙ has in
      let shown = opened_window roots s pools p tables f g o.listed o.filled o.bridge kind (ap (has_window kind) (sym o.moved.probe) ∙ there) was in
      let same = window_same s t p.system pairs pools kind f g o.listed o.moved o.bridge in
      let place = place_same s t p.system pairs pools kind roots (window_item s pools kind f) (window_item t pools kind g) same in
      open_range kind g (range_from (place_at roots s pools f (Window kind)) (window_item s pools kind f).size) shown.0 shown.1
      ∙ ap (λ n. Some (range_from n (window_item s pools kind f).size)) (sym place)
      ∙ ap (λ n. Some (range_from (place_of roots t pools kind (window_item t pools kind g)) n)) (sym same.size)

  window_closed : (g : Function) (kind : WindowKind) → Contains t g → is_bridge g ≡ true → has_window kind g.probe ≡ true → has_behind t pools kind g ≡ false
      → bounds_at kind g.image ≡ closed_bounds kind (nibble_of kind g)
  window_closed g kind in_g bridge there none =
      let o = old_bridge g in_g bridge in
      let f = o.f in
      let was : has_behind s pools kind f ≡ false = sym (has_behind_same s t p.system pairs pools kind f g o.listed o.moved o.bridge) ∙ none in
      closed_window roots s pools p tables f g o.listed o.filled o.bridge kind (ap (has_window kind) (sym o.moved.probe) ∙ there) was
      ∙ ap (λ probe. closed_bounds kind (if is_wide_window kind probe then 1 else 0)) (sym o.moved.probe)

  -- ---- the whole

  pub planned_is_placed : IsPlaced roots t pools
  planned_is_placed = record { parts = parts_placed; opened = window_opened; closed = window_closed }

  pub planned_is_laid_out : IsLaidOut roots t pools
  planned_is_laid_out = laid_out_by_table roots s t pools p.system p.nested (place_at roots s pools) (all_shown roots s t pools p tables planned) tables

  pub planned_is_planned : IsPlanned s t pools
  planned_is_planned =
      planned_by_table roots s t pools p.system p.nested p.decodable (place_at roots s pools) (all_shown roots s t pools p tables planned) tables (switched_on roots s t pools p tables planned)

  pub planned_is_sound : IsSound roots t
  planned_is_sound =
      sound_by_table roots s t pools p.system p.nested p.decodable (place_at roots s pools) (all_shown roots s t pools p tables planned) tables (switched_on roots s t pools p tables planned)
      p.profile p.chains p.can.good

  pub planned_is_final : IsFinal roots s t pools
  planned_is_final = record { planned = planned_is_planned; sound = planned_is_sound; laid_out = planned_is_laid_out; placed = planned_is_placed }
