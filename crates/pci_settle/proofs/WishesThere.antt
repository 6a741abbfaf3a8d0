-- A window that gets a place is there.
use Rattle.std.proofs.Common.{◌≡◌, ℕ, ◌<◌, inl, inr, true, false, ◌||◌, not, refl, ◌∙◌, ap, subst, Some}
use Rattle.std.specs.Bool.{◌==◌}
use Rattle.std.specs.List.{Contains, list_any}
use Rattle.std.proofs.lemmas.Bool.{and_parts, both_ways, eqb-true, not-false, not-true, or_parts}
use Rattle.std.proofs.lemmas.List.Elements.{All-contains}
use Rattle.pci_spec.specs.Header.{layout}
use Rattle.pci_spec.specs.Bar.{has_bar}
use Rattle.pci_spec.specs.Window.{WindowKind, IoWindow, MemoryWindow, PrefetchWindow, has_window}
use Rattle.pci_spec.specs.Decoded.{IsDecodable}
use Rattle.pci_spec.specs.System.{System, Function, Space, IsFunction, IsSystem, Bar, Window, is_bridge, is_window, window_space}
use Rattle.pci_spec.specs.Bus.{IsNested}
use Rattle.pci_spec.proofs.Records.{memory_window_there}
use Rattle.plan_spec.specs.Plan.{bridges_above, is_io_part, same_class}
use Rattle.settle_spec.specs.Lists.{Request}
use Rattle.settle_spec.specs.Parts.{is_empty, is_left, is_part, class_in}
use Rattle.settle_spec.specs.Stands.{rank, window_part}
use Rattle.settle_spec.specs.Items.{PlacingItem, Placed, has_of}
use Rattle.settle_spec.specs.Places.{placed_of}
use Rattle.settle_spec.specs.Kept.{Kept}
use Rattle.settle_spec.specs.Keeping.Places.{space_items, placing_on, new_place}
use Rattle.settle_laws.proofs.Finding.{found}
use Rattle.settle_laws.proofs.HeaderParts.{part_cases}
use Rattle.settle_laws.proofs.Held.{and_second_false}
use Rattle.settle_laws.proofs.Keeping.Buses.{of_space}
use Rattle.settle_laws.proofs.NonePasses.{none_passes}
use Rattle.settle_laws.proofs.PartClasses.{io_of_class, prefetch_windows}
use Rattle.settle_laws.proofs.PartPlaces.{IsBehindOf, behind_of}
use Rattle.pci_settle_places.proofs.Parts.{each_in, real_in, rank_one}
use Rattle.pci_settle_places.proofs.Reached.{item_here}

-- a window is placed where something of its class is behind its bridge
abbrev HasBehind : Request → System → PlacingItem → Type 0
HasBehind q s i = (d : WindowKind) → i.region.part ≡ Window d → has_of q s d i.region.function ≡ true

behind_in : (q : Request) (s : System) (keep : Kept) (space : Space) (bus : ℕ) (i : PlacingItem) → Contains (space_items q s keep space bus) i → HasBehind q s i
behind_in q s keep space bus = each_in q s keep space bus (HasBehind q s)
    (λ c of f on p is d window. absurd (both_ways (is_window p) is.plain (ap is_window window)))
    (λ c of f on is d window. (let same : c ≡ d = cc in subst (λ x. has_of q s x f ≡ true) same is.has))

module _ (q : Request) (s : System) (system : IsSystem s) (nested : IsNested q.roots s) (decodable : (f : Function) → Contains s f → IsDecodable f) where
  -- something is behind a bridge only where it can be reached
  needed : (c : WindowKind) (b : Function) → Contains s b → is_bridge b ≡ true → IsBehindOf q s c b → has_window c b.probe ≡ true
  needed IoWindow b listed bridge is = elim (part_cases is.f is.p is.there) [
    | inl bar ↦
        let n = bar.n in
        let io = io_of_class q s is.f n (ap (class_in q s is.f) bar.is ∙ is.class) in
        let part = ap (is_part q s is.f) bar.is ∙ is.part in
        let kept = not-true (is_left q s is.f (Bar n)) (and_parts (has_bar is.f.probe n) (not (is_left q s is.f (Bar n))) part).1 in
        let none = and_second_false (is_io_part is.f (Bar n)) (is_empty q.lists.io || list_any (λ (d : Function). not (has_window IoWindow d.probe)) (bridges_above s is.f.slot.bus)) io kept in
        let all = (or_parts (is_empty q.lists.io) (list_any (λ (d : Function). not (has_window IoWindow d.probe)) (bridges_above s is.f.slot.bus)) none).1 in
        not-false (has_window IoWindow b.probe) (none_passes (λ (d : Function). not (has_window IoWindow d.probe)) (bridges_above s is.f.slot.bus) all b is.above)
    | inr (inl window) ↦ absurd (both_ways true (ap is_window window.is ∙ is.plain) refl)
    | inr (inr rom) ↦ absurd (both_ways false refl (ap (same_class IoWindow) (ap (class_in q s is.f) rom ∙ is.class)))
  ]
  needed MemoryWindow b listed bridge is = memory_window_there b.image b.probe ((decodable b listed).windows MemoryWindow (eqb-true (layout b.image) 1 bridge))
  needed PrefetchWindow b listed bridge is = elim (part_cases is.f is.p is.there) [
    | inl bar ↦ prefetch_windows q s is.f bar.n (ap (class_in q s is.f) bar.is ∙ is.class) b is.above
    | inr (inl window) ↦ absurd (both_ways true (ap is_window window.is ∙ is.plain) refl)
    | inr (inr rom) ↦ absurd (both_ways false refl (ap (same_class PrefetchWindow) (ap (class_in q s is.f) rom ∙ is.class)))
  ]

  pub placed_there : (keep : Kept) (c : WindowKind) (f : Function) → Contains s f → is_bridge f ≡ true → (x : Placed) → new_place q s keep (window_part c f) ≡ Some x → has_window c f.probe ≡ true
  placed_there keep c f listed bridge x placed =
      let space = window_space c in
      let bus = f.slot.bus in
      let low : bus < 256 = (All-contains IsFunction s f system.each listed).slot.0 in
      let hit = found (λ (y : Placed). rank y.item.region == rank (window_part c f)) (placed_of (placing_on q s keep space bus)) x placed in
      let item = item_here q s keep system nested space bus low x hit.0 in
      let real = real_in q s keep space bus x.item item in
      let of = of_space q s keep space bus x.item item in
      let one = rank_one s system x.item.region.function f x.item.region.part (Window c) of.listed listed real.there bridge (eqb-true (rank x.item.region) (rank (window_part c f)) hit.1) in
      let has = behind_in q s keep space bus x.item item c one.part in
      needed c f listed bridge (behind_of q s c f listed bridge (subst (λ g. has_of q s c g ≡ true) one.function has))
