-- The worked tree between two states: the laws of planning, with all that they ask for.
use Rattle.std.proofs.Common.{◌≡◌, ℕ, zero, suc, ◌<◌, ◌≤◌, List, [], ◌∷◌, inl, refl, false, arith, lit<, subst, map, take}
use Rattle.std.specs.List.{All, AllZip, Contains}
use Rattle.std.specs.List.Sorted.{IsStrictlyIncreasing}
use Rattle.pci_spec.specs.Number.{each_from}
use Rattle.pci_spec.specs.Slot.{slot_number}
use Rattle.pci_spec.specs.Window.{WindowKind}
use Rattle.pci_spec.specs.System.{System, Function, IsSystem}
use Rattle.pci_spec.specs.Sound.{IsSound}
use Rattle.pci_spec.specs.Machine.{system_after}
use Rattle.plan_spec.specs.Plan.{IsMoved}
use Rattle.plan_spec.specs.PlanPromise.{changes_between, with_rom_on}
use Rattle.plan_spec.specs.Planning.Laws.{AreChanges}
use Rattle.plan_spec.specs.Planning.Numbers.{place_at}
use Rattle.plan_spec.specs.Planning.Plannable.{IsPlannable}
use Rattle.plan_spec.specs.Planning.PlanWrites.{Change, plan_writes}
use Rattle.plan_spec.specs.Planning.Promise.{IsFinal}
use Rattle.plan_spec.specs.Planning.Safety.{is_on, IsCutAt}
use Rattle.plan_spec.specs.Planning.Table.{IsTable}
use Rattle.plan_spec.proofs.Planning.Fit.{moved_itself}
use Rattle.plan_spec.proofs.Planning.Reached.{writes_reach}
use Rattle.plan_spec.proofs.Planning.Stops.{plan_can_stop}
use Rattle.plan_spec.proofs.PlanningLaws.{cut_is_sound, moved_is_system, moved_is_nested, moved_is_in_profile, moved_has_chains, laid_out_is_sound, roms_can_be_on, places_are_a_table, planned_numbers_are_final}
use Rattle.pci_spec.proofs.Examples.Samples.{slot, device, bridge, host}
use Rattle.pci_spec.proofs.Examples.Texts.{bytes_by}
use Rattle.plan_spec.proofs.Examples.Plans.{pools}
use Rattle.plan_spec.proofs.Examples.Placed.{start, planned}
use Rattle.plan_spec.proofs.Examples.PlanWrites.{all_on}
use Rattle.plan_spec.proofs.Examples.Planned.{old_bridge, old_device, old_behind, new_bridge, new_device, new_behind, bridge_moved, device_moved, behind_moved, each_of_planned, moved_by}
use Rattle.plan_spec.proofs.Examples.Filled.{bridge_is_filled, device_is_filled, behind_is_filled, tree_can_be_planned}
use Rattle.plan_spec.proofs.Examples.Admitted.{tree_is_a_system, tree_is_nested, tree_decodes, tree_has_chains, tree_is_in_profile}
use Rattle.plan_spec.proofs.Examples.WholePlan.{planned_tree_is_sound, tree_is_switched_on}

-- ---- the tree can be planned, and its numbers make the planned tree

tree_is_plannable : IsPlannable host start pools
tree_is_plannable = record { system = tree_is_a_system; nested = tree_is_nested; profile = tree_is_in_profile; chains = tree_has_chains; decodable = tree_decodes; addresses = lit< tt; can = tree_can_be_planned }

one_root : IsStrictlyIncreasing host
one_root k less = absurd (let impossible : ⊥ = omega (arith, less) in impossible)

tree_has_a_table : (c : WindowKind) → IsTable host start pools c (place_at host start pools)
tree_has_a_table c = places_are_a_table host start pools c tree_is_plannable one_root

planned_tree_is_final : IsFinal host start planned pools
planned_tree_is_final = planned_numbers_are_final host start planned pools tree_is_plannable one_root (bridge_is_filled, (device_is_filled, (behind_is_filled, tt)))

-- ---- the planned tree, everything switched on

tree_moved : AllZip IsMoved start planned
tree_moved = (bridge_moved, (device_moved, (behind_moved, tt)))

planned_is_a_system : IsSystem planned
planned_is_a_system = moved_is_system start planned tree_moved tree_is_a_system

sound_by_its_places : IsSound host planned
sound_by_its_places = laid_out_is_sound host planned pools (moved_is_nested host start planned tree_moved tree_is_a_system tree_is_nested)
    (moved_is_in_profile host start planned tree_moved tree_is_a_system tree_has_chains tree_is_in_profile) (moved_has_chains start planned tree_moved tree_is_a_system tree_has_chains)
    planned_tree_is_final.laid_out tree_is_switched_on refl

sound_with_roms : IsSound host (map with_rom_on planned)
sound_with_roms = roms_can_be_on host planned pools planned_is_a_system planned_tree_is_sound planned_tree_is_final.laid_out tree_is_switched_on refl

-- ---- the bridge alone is left on

abbrev off_device : Function
off_device = device (slot 0 2 0) 0 ((0x10, 0xe0200000) ∷ []) ((0x10, 0xfff00000) ∷ [])

-- what is off may point anywhere: here at the device's addresses
abbrev off_behind : Function
off_behind = device (slot 1 0 0) 0 ((0x10, 0xe0200000) ∷ []) ((0x10, 0xfff00000) ∷ (0x14, 0xfffff000) ∷ [])

abbrev bridge_alone : System
bridge_alone = new_bridge ∷ off_device ∷ off_behind ∷ []

device_off_moved : IsMoved new_device off_device
unfolding each_from
device_off_moved = record { slot = refl; probe = refl; image = record { full = refl; bytes = bytes_by off_device.image refl }; same = moved_by new_device off_device refl }

behind_off_moved : IsMoved new_behind off_behind
unfolding each_from
behind_off_moved = record { slot = refl; probe = refl; image = record { full = refl; bytes = bytes_by off_behind.image refl }; same = moved_by new_behind off_behind refl }

each_left : (P : Function → Type 0) → P new_bridge → P off_device → P off_behind → (f : Function) → Contains bridge_alone f → P f
each_left P a b c f (zero, less, is) = subst P is a
each_left P a b c f (suc zero, less, is) = subst P is b
each_left P a b c f (suc (suc zero), less, is) = subst P is c
each_left P a b c f (suc (suc (suc k)), less, is) = absurd (let impossible : ⊥ = omega (arith, less) in impossible)

cut_above_the_bridge : IsCutAt 16 bridge_alone planned
cut_above_the_bridge = record {
  same = λ f below listed. each_left (λ f. slot_number f.slot < 16 → Contains planned f) (λ low. (0, lit< tt, refl)) (λ low. absurd (let impossible : ⊥ = omega (arith, low) in impossible))
      (λ low. absurd (let impossible : ⊥ = omega (arith, low) in impossible)) f listed below;
  back = λ f below listed. each_of_planned (λ f. slot_number f.slot < 16 → Contains bridge_alone f) (λ low. (0, lit< tt, refl)) (λ low. absurd (let impossible : ⊥ = omega (arith, low) in impossible))
      (λ low. absurd (let impossible : ⊥ = omega (arith, low) in impossible)) f listed below;
  off = λ f listed above. each_left (λ f. 16 ≤ slot_number f.slot → is_on f ≡ false) (λ high. absurd (let impossible : ⊥ = omega (arith, high) in impossible)) (λ high. refl) (λ high. refl) f listed above;
}

bridge_alone_is_sound : IsSound host bridge_alone
bridge_alone_is_sound = cut_is_sound host 16 bridge_alone planned planned_is_a_system planned_tree_is_sound
    (moved_itself new_bridge bridge_moved.image, (device_off_moved, (behind_off_moved, tt))) cut_above_the_bridge

-- ---- a start in which the window at 0 and the BARs at 0 answer one address

abbrev open_bridge : Function
open_bridge = bridge (slot 0 1 0) 2 0x10100 [] []

abbrev low_device : Function
low_device = device (slot 0 2 0) 2 [] ((0x10, 0xfff00000) ∷ [])

abbrev low_behind : Function
low_behind = device (slot 1 0 0) 2 [] ((0x10, 0xfff00000) ∷ (0x14, 0xfffff000) ∷ [])

start_to_open : IsMoved old_bridge open_bridge
unfolding each_from
start_to_open = record { slot = refl; probe = refl; image = record { full = refl; bytes = bytes_by open_bridge.image refl }; same = moved_by old_bridge open_bridge refl }

start_to_low : IsMoved old_device low_device
unfolding each_from
start_to_low = record { slot = refl; probe = refl; image = record { full = refl; bytes = bytes_by low_device.image refl }; same = moved_by old_device low_device refl }

start_to_low_behind : IsMoved old_behind low_behind
unfolding each_from
start_to_low_behind = record { slot = refl; probe = refl; image = record { full = refl; bytes = bytes_by low_behind.image refl }; same = moved_by old_behind low_behind refl }

start_to_all_on : AllZip IsMoved start all_on
start_to_all_on = (start_to_open, (start_to_low, (start_to_low_behind, tt)))

open_to_planned : IsMoved open_bridge new_bridge
unfolding each_from
open_to_planned = record { slot = refl; probe = refl; image = bridge_moved.image; same = moved_by open_bridge new_bridge refl }

low_to_planned : IsMoved low_device new_device
unfolding each_from
low_to_planned = record { slot = refl; probe = refl; image = device_moved.image; same = moved_by low_device new_device refl }

low_behind_to_planned : IsMoved low_behind new_behind
unfolding each_from
low_behind_to_planned = record { slot = refl; probe = refl; image = behind_moved.image; same = moved_by low_behind new_behind refl }

abbrev changes : List Change
changes = changes_between all_on planned

each_moved : All (λ (c : Change). IsMoved c.old c.new) changes
each_moved zero d less = open_to_planned
each_moved (suc zero) d less = low_to_planned
each_moved (suc (suc zero)) d less = low_behind_to_planned
each_moved (suc (suc (suc k))) d less = absurd (let impossible : ⊥ = omega (arith, less) in impossible)

they_are_changes : AreChanges changes
they_are_changes = record { system = moved_is_system start all_on start_to_all_on tree_is_a_system; moved = each_moved }

-- The start is not sound; from the third write on, behind the closing ones, every stop is.
stopped_after_closing : (k : ℕ) → 3 ≤ k → IsSound host (system_after all_on (take k (plan_writes changes)))
stopped_after_closing k past = plan_can_stop host changes they_are_changes
    (moved_is_nested host start all_on start_to_all_on tree_is_a_system tree_is_nested)
    (moved_is_in_profile host start all_on start_to_all_on tree_is_a_system tree_has_chains tree_is_in_profile)
    (moved_has_chains start all_on start_to_all_on tree_is_a_system tree_has_chains) planned_tree_is_sound k (inl past)

they_lead_to_the_planned_tree : system_after all_on (plan_writes changes) ≡ planned
they_lead_to_the_planned_tree = writes_reach changes they_are_changes.system each_moved
