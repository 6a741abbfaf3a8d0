-- New places can be shown: by a BAR's kind, a ROM's register and a window's pages and upper halves.
use Rattle.std.proofs.Common.{◌≡◌, ◌||◌, ℕ, ◌+◌, ◌-◌, ◌%◌, ◌^◌, ◌<◌, ◌≤◌, inl, inr, max, List, [], ◌∷◌, map, length, true, false, not, arith, refl, sym, ◌∙◌, ap, subst, Some}
use Rattle.std.specs.Bool.{nat_lt}
use Rattle.std.specs.List.{Contains, list_any}
use Rattle.std.proofs.lemmas.Bool.{and_parts, both_ways, eqb-true, le-ltb, lt-ltb, ltb-true, not-false, not-true, or_parts}
use Rattle.std.proofs.lemmas.List.Elements.{All-contains}
use Rattle.pci_spec.specs.Header.{layout, bar_count}
use Rattle.pci_spec.specs.Bar.{bar_at, has_bar}
use Rattle.pci_spec.specs.Window.{WindowKind, IoWindow, MemoryWindow, PrefetchWindow, bounds_for, closed_bounds, has_window, page_size}
use Rattle.pci_spec.specs.Decoded.{IsDecodable, bar_size, rom_size, Range}
use Rattle.pci_spec.specs.System.{System, Function, IsFunction, Part, Bar, Rom, Window, has_part, is_bridge, is_window}
use Rattle.pci_spec.specs.Bus.{secondary}
use Rattle.pci_spec.proofs.Members.{in_head}
use Rattle.pci_spec.proofs.Records.{memory_window_there}
use Rattle.plan_spec.specs.Plan.{bridges_above, is_io_part, same_class, greatest, raised_to}
use Rattle.plan_spec.specs.Place.{nibble_of, range_from}
use Rattle.plan_spec.proofs.PlanningLaws.{profile_decodes}
use Rattle.plan_spec.proofs.Planning.Placement.{step_power}
use Rattle.plan_spec.proofs.Planning.Room.{raised}
use Rattle.plan_spec.proofs.Planning.WindowFits.{PartsFit}
use Rattle.settle_spec.specs.FirstPlace.{Extent, first_spot}
use Rattle.settle_spec.specs.Lists.{RootRange, Request, end_above}
use Rattle.settle_spec.specs.Spares.{with_spare}
use Rattle.settle_spec.specs.Parts.{is_empty, is_left, is_part, class_in}
use Rattle.settle_spec.specs.Stands.{window_part}
use Rattle.settle_spec.specs.Items.{PlacingItem, Placed, highest_of_bar, has_of, bus_items, laid_out, end_of, nothing, spare_of, window_around, new_window}
use Rattle.settle_spec.specs.Keeping.Places.{new_place}
use Rattle.settle_spec.proofs.ItemsBehind.{items_are_behind}
use Rattle.settle_spec.proofs.LaidOut.{laid_keeps, laid_before, end_behind, end_more}
use Rattle.settle_spec.proofs.NewWindows.{window_is_around}
use Rattle.settle_laws.specs.Keeping.PlacesLaws.{CanSettle}
use Rattle.settle_laws.specs.WriteLaws.{AreLists}
use Rattle.settle_laws.proofs.BusPlaced.{page_some}
use Rattle.settle_laws.proofs.HeaderParts.{is_part_of, part_cases}
use Rattle.settle_laws.proofs.Held.{and_second_false}
use Rattle.settle_laws.proofs.ItemForms.{IsPlaceable, IsOwnPart, IsNewWindow, extent_by, new_window_power}
use Rattle.settle_laws.proofs.Keeping.NewPlaces.{new_place_is as place_is}
use Rattle.settle_laws.proofs.PartClasses.{io_of_class, prefetch_windows}
use Rattle.settle_laws.proofs.PartPlaces.{IsBehindOf, behind_of}
use Rattle.settle_laws.proofs.Keeping.PartPlaces.{new_place_is}
use Rattle.settle_laws.proofs.Keeping.PlacesFit.{bar_fine, rom_fine, open_fit, grown_fit, closed_fit, kept_free_fit}
use Rattle.settle_laws.proofs.Powers.{multiple_below}
use Rattle.settle_laws.proofs.NonePasses.{none_by, none_passes}
use Rattle.settle_spec.specs.Kept.{Kept}

module _ (q : Request) (s : System) (k : Kept) (can : CanSettle q s k) where
  far : end_above 0xffff_ffff_ffff_ffff q.lists.prefetch ≡ false
  far = none_by (λ (r : RootRange). nat_lt 0xffff_ffff_ffff_ffff r.range.last) q.lists.prefetch (λ r has. le-ltb 0xffff_ffff_ffff_ffff r.range.last (let high = can.high r has in omega (arith, high)))

  pub are_lists : AreLists q
  are_lists = record { good = can.lists; short = far }

  pub was : (f : Function) → Contains s f → IsFunction f
  was f listed = All-contains IsFunction s f can.system.each listed

  pub decodable : (f : Function) → Contains s f → IsDecodable f
  decodable f listed = All-contains IsDecodable s f (profile_decodes q.roots s can.profile) listed

  -- ---- windows that are needed are there

  window_by : (c : WindowKind) (b : Function) → Contains s b → is_bridge b ≡ true → IsBehindOf q s c b → has_window c b.probe ≡ true
  window_by IoWindow b listed bridge is = elim (part_cases is.f is.p is.there) [
    | inl bar ↦
        let n = bar.n in
        let io = io_of_class q s is.f n (ap (class_in q s is.f) bar.is ∙ is.class) in
        let part = ap (is_part q s is.f) bar.is ∙ is.part in
        let kept = not-true (is_left q s is.f (Bar n)) (and_parts (has_bar is.f.probe n) (not (is_left q s is.f (Bar n))) part).1 in
        let none = and_second_false (is_io_part is.f (Bar n)) (is_empty q.lists.io || list_any (λ (d : Function). not (has_window IoWindow d.probe)) (bridges_above s is.f.slot.bus)) io kept in
        let all = (or_parts (is_empty q.lists.io) (list_any (λ (d : Function). not (has_window IoWindow d.probe)) (bridges_above s is.f.slot.bus)) none).1 in
        not-false (has_window IoWindow b.probe) (none_passes (λ (d : Function). not (has_window IoWindow d.probe)) (bridges_above s is.f.slot.bus) all b is.above)
    | inr (inl window) ↦ absurd (both_ways true (ap is_window window.is ∙ is.plain) refl)
    | inr (inr rom) ↦ absurd (both_ways false refl (ap (same_class IoWindow) (ap (class_in q s is.f) rom ∙ is.class)))
  ]
  window_by MemoryWindow b listed bridge is = memory_window_there b.image b.probe ((decodable b listed).windows MemoryWindow (eqb-true (layout b.image) 1 bridge))
  window_by PrefetchWindow b listed bridge is = elim (part_cases is.f is.p is.there) [
    | inl bar ↦ prefetch_windows q s is.f bar.n (ap (class_in q s is.f) bar.is ∙ is.class) b is.above
    | inr (inl window) ↦ absurd (both_ways true (ap is_window window.is ∙ is.plain) refl)
    | inr (inr rom) ↦ absurd (both_ways false refl (ap (same_class PrefetchWindow) (ap (class_in q s is.f) rom ∙ is.class)))
  ]

  pub window_there : (c : WindowKind) (b : Function) → Contains s b → is_bridge b ≡ true → has_of q s c b ≡ true → has_window c b.probe ≡ true
  window_there c b listed bridge has = window_by c b listed bridge (behind_of q s c b listed bridge has)

  -- ---- new windows

  module _ (c : WindowKind) (b : Function) (listed : Contains s b) (bridge : is_bridge b ≡ true) where
    abbrev behind : List PlacingItem
    behind = bus_items q s c nothing (new_window q s c) (secondary b)

    abbrev extents : List Extent
    extents = with_spare (spare_of q c b) (map (λ (i : PlacingItem). i.extent) behind)

    around : new_window q s c b ≡ window_around q c b behind
    around = window_is_around q s c can.system can.nested b listed bridge

    -- pages of a window
    whole_pages : (new_window q s c b).size % page_size c ≡ 0
    whole_pages = ap (λ (e : Extent). e.size % page_size c) around ∙ (raised (page_size c) (end_of (laid_out [] extents)) (page_some c)).multiple

    page_below : page_size c ≤ (new_window q s c b).alignment
    page_below = let e : (new_window q s c b).alignment ≡ max (page_size c) (greatest (map (λ (e : Extent). e.alignment) extents)) = ap (λ (e : Extent). e.alignment) around in omega (arith, e)

    some_end : (items : List PlacingItem) → 0 < length items → 0 < end_of (laid_out [] (map (λ (i : PlacingItem). i.extent) items))
    some_end [] less = absurd (let no : ⊥ = omega (arith, less) in no)
    some_end (i ∷ items) less =
        let e = i.extent in
        let more = map (λ (i : PlacingItem). i.extent) items in
        let here = range_from (first_spot 0 [] e) e.size in
        let end = end_behind (laid_out [] (e ∷ more)) here (laid_keeps (here ∷ []) more here (in_head here [])) in
        omega (arith, end)

    some_size : has_of q s c b ≡ true → 0 < (new_window q s c b).size
    some_size has =
        let long = ltb-true 0 (length behind) (sym (items_are_behind q s c (new_window q s c) can.system can.nested b listed bridge) ∙ has) in
        let own = map (λ (i : PlacingItem). i.extent) behind in
        let end = some_end behind long in
        let more = end_more (laid_out [] own) (laid_out [] extents) (laid_before [] own (spare_of q c b)) in
        let from = (raised (page_size c) (end_of (laid_out [] extents)) (page_some c)).from in
        let e : (new_window q s c b).size ≡ raised_to (page_size c) (end_of (laid_out [] extents)) = ap (λ (e : Extent). e.size) around in
        omega (arith, end, more, from, e)

  -- ---- what a new place has to be

  pub size_of_place : (f : Function) (p : Part) → Contains s f → has_part f p ≡ true → (x : Placed) → new_place q s k record { function = f; part = p } ≡ Some x → x.item.extent ≡ extent_by (new_window q s) f p
  size_of_place f p listed there x shown = ap (λ (i : PlacingItem). i.extent) (new_place_is q s k can f p listed there x shown).item

  pub bar_room : (f : Function) (n : ℕ) → Contains s f → n < bar_count (layout f.image) → has_bar f.probe n ≡ true → (x : Placed) → new_place q s k record { function = f; part = Bar n } ≡ Some x
      → (x.at % bar_size f.probe n ≡ 0) × (x.at + bar_size f.probe n ≤ highest_of_bar (bar_at f.probe n) + 1)
  bar_room f n listed inside there x shown =
      bar_fine q s k can f listed (was f listed) (decodable f listed) n (is_part_of f (Bar n) (lt-ltb n (bar_count (layout f.image)) inside)) inside there x shown

  pub rom_room : (f : Function) → Contains s f → (x : Placed) → new_place q s k record { function = f; part = Rom } ≡ Some x
      → (x.at % rom_size f.image f.probe ≡ 0) × (x.at + rom_size f.image f.probe ≤ 2 ^ 32)
  rom_room f listed x shown = rom_fine q s k can f listed (was f listed) (decodable f listed) x shown

  has_by : (c : WindowKind) (b : Function) → IsPlaceable q s c b (Window c) → (is_bridge b ≡ true) × (has_of q s c b ≡ true)
  has_by c b (IsOwnPart plain part) = absurd (both_ways true plain refl)
  has_by c b (IsNewWindow window bridge has) = (bridge, has)

  pub window_has : (b : Function) (c : WindowKind) → Contains s b → is_bridge b ≡ true → (x : Placed) → new_place q s k (window_part c b) ≡ Some x → has_of q s c b ≡ true
  window_has b c listed bridge x shown = (has_by c b (new_place_is q s k can b (Window c) listed bridge x shown).placeable).1

  -- whole pages, from a multiple of one on
  pub record IsPages (c : WindowKind) (first size : ℕ) : Type 0 where
    pub some : 0 < size
    pub aligned : first % page_size c ≡ 0
    pub whole : size % page_size c ≡ 0

  pub window_room : (b : Function) (c : WindowKind) → Contains s b → is_bridge b ≡ true → (x : Placed) → new_place q s k (window_part c b) ≡ Some x → IsPages c x.at x.item.extent.size
  window_room b c listed bridge x shown =
      let multiple = (place_is q s k can b listed (Window c) (is_part_of b (Window c) bridge) x shown).multiple in
      let e = size_of_place b (Window c) listed bridge x shown in
      let has = window_has b c listed bridge x shown in
      record {
        some = subst (λ (d : Extent). 0 < d.size) (sym e) (some_size c b listed bridge has);
        aligned = multiple_below x.at (new_window q s c b).alignment (page_size c) (new_window_power q s c b) (step_power c) (page_below c b listed bridge) (ap (λ (d : Extent). x.at % d.alignment) (sym e) ∙ multiple);
        whole = ap (λ (d : Extent). d.size % page_size c) e ∙ whole_pages c b listed bridge;
      }

  module _ (b : Function) (c : WindowKind) (listed : Contains s b) (bridge : is_bridge b ≡ true) (there : has_window c b.probe ≡ true) where
    pub shown_fit : (x : Placed) → new_place q s k (window_part c b) ≡ Some x → PartsFit b c (bounds_for c (nibble_of c b) x.at (x.at + (x.item.extent.size - 1)))
    shown_fit x shown = open_fit q s k can b listed (was b listed) (decodable b listed) c (is_part_of b (Window c) bridge) bridge there x shown

    pub more_fit : k.stays (window_part c b) ≡ true → PartsFit b c (bounds_for c (nibble_of c b) (k.range (window_part c b)).first (k.range (window_part c b)).last)
    more_fit keeps = grown_fit q s k can b listed (was b listed) (decodable b listed) c (is_part_of b (Window c) bridge) bridge there keeps

    pub wish_fit : (w : Range) → k.wished (window_part c b) ≡ Some w → PartsFit b c (bounds_for c (nibble_of c b) w.first w.last)
    wish_fit w wished = kept_free_fit q s k can b listed (was b listed) (decodable b listed) c (is_part_of b (Window c) bridge) bridge there w wished

    pub none_fit : PartsFit b c (closed_bounds c (nibble_of c b))
    none_fit = closed_fit q s k can b listed (was b listed) (decodable b listed) c (is_part_of b (Window c) bridge) bridge there
