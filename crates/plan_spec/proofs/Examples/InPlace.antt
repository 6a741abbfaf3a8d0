-- The worked tree after its writes: each BAR and the window stand at their places.
use Rattle.std.proofs.Common.{◌≡◌, refl, Bool, true, Some, sym}
use Rattle.std.specs.Bool.{IsTrue, IsFalse, ◌==◌}
use Rattle.std.specs.List.{Contains, list_all}
use Rattle.std.proofs.lemmas.Bool.{eqb-true}
use Rattle.pci_spec.specs.Window.{WindowKind, IoWindow, MemoryWindow, PrefetchWindow, bounds_at, has_window, closed_bounds}
use Rattle.pci_spec.specs.Decoded.{window_range}
use Rattle.pci_spec.specs.System.{Function, Part, bars_and_rom, is_bridge}
use Rattle.plan_spec.specs.Plan.{class_of, has_behind, items_within, doubled_to}
use Rattle.plan_spec.specs.Place.{IsPlaced, start_within, part_item, window_item, place_of, first_of, range_from, nibble_of}
use Rattle.plan_spec.proofs.Planning.Behind.{all_gives}
use Rattle.pci_spec.proofs.Examples.Samples.{host}
use Rattle.plan_spec.proofs.Examples.Plans.{pools}
use Rattle.plan_spec.proofs.Examples.Placed.{planned}
use Rattle.plan_spec.proofs.Examples.Planned.{new_bridge, new_device, new_behind, each_of_planned, no}

-- a BAR or ROM begins at its place
abbrev begins_there : Function → Part → Bool
begins_there f part = first_of f part == place_of host planned pools (class_of planned pools f part) (part_item f part)

abbrev AllBegin : Function → Type 0
AllBegin f = (part : Part) → Contains (bars_and_rom f) part → first_of f part ≡ place_of host planned pools (class_of planned pools f part) (part_item f part)

begin_by : (f : Function) → list_all (begins_there f) (bars_and_rom f) ≡ true → AllBegin f
begin_by f h part listed = eqb-true _ _ (all_gives (begins_there f) (bars_and_rom f) part h listed)

bars_of_the_bridge : AllBegin new_bridge
unfolding start_within items_within doubled_to
bars_of_the_bridge = begin_by new_bridge refl

bars_of_the_device : AllBegin new_device
unfolding start_within items_within doubled_to
bars_of_the_device = begin_by new_device refl

bars_behind : AllBegin new_behind
unfolding start_within items_within doubled_to
bars_behind = begin_by new_behind refl

-- the window of a class is open at its place
abbrev IsOpenThere : Function → Type 0
IsOpenThere b =
    (c : WindowKind) → IsTrue (is_bridge b) → IsTrue (has_window c b.probe) → IsTrue (has_behind planned pools c b)
    → window_range c b.image ≡ Some (range_from (place_of host planned pools c (window_item planned pools c b)) (window_item planned pools c b).size)

open_memory_window : IsOpenThere new_bridge
unfolding start_within items_within doubled_to
open_memory_window IoWindow bridge window behind = absurd (no window)
open_memory_window MemoryWindow bridge window behind = refl
open_memory_window PrefetchWindow bridge window behind = absurd (no window)

abbrev IsClosedThere : Function → Type 0
IsClosedThere b =
    (c : WindowKind) → IsTrue (is_bridge b) → IsTrue (has_window c b.probe) → IsFalse (has_behind planned pools c b)
    → bounds_at c b.image ≡ closed_bounds c (nibble_of c b)

no_other_window : IsClosedThere new_bridge
no_other_window IoWindow bridge window behind = absurd (no window)
no_other_window MemoryWindow bridge window behind = absurd (no (sym behind))
no_other_window PrefetchWindow bridge window behind = absurd (no window)

pub tree_is_in_place : IsPlaced host planned pools
tree_is_in_place = record {
  parts = λ f part listed. each_of_planned AllBegin bars_of_the_bridge bars_of_the_device bars_behind f listed part;
  opened = λ b c listed. each_of_planned IsOpenThere open_memory_window (λ c h. absurd (no h)) (λ c h. absurd (no h)) b listed c;
  closed = λ b c listed. each_of_planned IsClosedThere no_other_window (λ c h. absurd (no h)) (λ c h. absurd (no h)) b listed c;
}
