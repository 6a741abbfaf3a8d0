-- Bus numbers: what fits, and what is behind what.
use Rattle.std.proofs.Common.{◌≡◌, ℕ, ◌+◌, ◌*◌, List, [], ◌∷◌, refl, Bool, true, false, map}
use Rattle.std.specs.List.{range_with_len, list_all}
use Rattle.pci_spec.specs.System.{Function, System}
use Rattle.pci_spec.specs.Bus.{has_lawful_buses, has_bus_order, has_no_root_behind, is_inside_its_parents, is_led_to, is_behind, are_apart, share_no_bus, is_inside, is_strictly_inside}
use Rattle.pci_spec.proofs.Examples.Samples.{slot, device, bridge, host}

-- the bridge on a bus, with a device number, from its secondary to its subordinate bus
abbrev on_bus : ℕ → ℕ → ℕ → ℕ → Function
on_bus bus d first last = bridge (slot bus d 0) 0 (bus + 256 * first + 65536 * last) [] []

-- whether each bridge of a system has lawful buses
abbrev lawful : List ℕ → System → List Bool
lawful roots s = map (has_lawful_buses roots s) s

one_bus_behind : lawful host (on_bus 0 1 1 1 ∷ []) ≡ true ∷ []
one_bus_behind = refl

range_that_leaves_its_parents : lawful host (on_bus 0 1 1 2 ∷ on_bus 1 0 2 3 ∷ []) ≡ true ∷ false ∷ []
range_that_leaves_its_parents = refl

range_inside_its_parents : lawful host (on_bus 0 1 1 3 ∷ on_bus 1 0 2 3 ∷ []) ≡ true ∷ true ∷ []
range_inside_its_parents = refl

ranges_that_share_a_bus : lawful host (on_bus 0 1 1 2 ∷ on_bus 0 2 2 3 ∷ []) ≡ true ∷ false ∷ []
ranges_that_share_a_bus = refl

ranges_side_by_side : lawful host (on_bus 0 1 1 2 ∷ on_bus 0 2 3 3 ∷ []) ≡ true ∷ true ∷ []
ranges_side_by_side = refl

range_inside_its_neighbours : lawful host (on_bus 0 1 1 5 ∷ on_bus 0 2 3 3 ∷ []) ≡ true ∷ false ∷ []
range_inside_its_neighbours = refl

range_above_its_parents : lawful host (on_bus 0 1 1 1 ∷ on_bus 1 0 2 2 ∷ []) ≡ true ∷ false ∷ []
range_above_its_parents = refl

two_bridges_to_one_bus : lawful host (on_bus 0 1 1 1 ∷ on_bus 0 2 1 1 ∷ []) ≡ true ∷ false ∷ []
two_bridges_to_one_bus = refl

secondary_is_its_own_bus : lawful host (on_bus 0 1 0 1 ∷ []) ≡ false ∷ []
secondary_is_its_own_bus = refl

secondary_is_its_own_bus_behind_a_bridge : lawful host (on_bus 0 1 1 2 ∷ on_bus 1 0 1 2 ∷ []) ≡ true ∷ false ∷ []
secondary_is_its_own_bus_behind_a_bridge = refl

secondary_below_its_own_bus : lawful host (on_bus 0 1 1 2 ∷ on_bus 1 0 0 2 ∷ []) ≡ true ∷ false ∷ []
secondary_below_its_own_bus = refl

subordinate_below_secondary : lawful host (on_bus 0 1 2 1 ∷ []) ≡ false ∷ []
subordinate_below_secondary = refl

siblings_behind_a_bridge_that_share_a_bus : lawful host (on_bus 0 1 1 4 ∷ on_bus 1 0 2 3 ∷ on_bus 1 1 3 4 ∷ []) ≡ true ∷ true ∷ false ∷ []
siblings_behind_a_bridge_that_share_a_bus = refl

siblings_behind_a_bridge_side_by_side : lawful host (on_bus 0 1 1 4 ∷ on_bus 1 0 2 3 ∷ on_bus 1 1 4 4 ∷ []) ≡ true ∷ true ∷ true ∷ []
siblings_behind_a_bridge_side_by_side = refl

higher_range_first : lawful host (on_bus 0 1 3 4 ∷ on_bus 0 2 1 2 ∷ []) ≡ true ∷ true ∷ []
higher_range_first = refl

parent_that_is_crooked : lawful host (on_bus 0 1 1 0 ∷ on_bus 1 0 2 2 ∷ []) ≡ false ∷ false ∷ []
parent_that_is_crooked = refl

root_behind_a_bridge : lawful (0 ∷ 0x40 ∷ []) (on_bus 0 1 1 64 ∷ []) ≡ false ∷ []
root_behind_a_bridge = refl

bridge_on_a_root_is_not_inside_one_that_leads_there : lawful (0 ∷ 6 ∷ []) (on_bus 0 1 6 6 ∷ on_bus 6 1 7 7 ∷ []) ≡ false ∷ true ∷ []
bridge_on_a_root_is_not_inside_one_that_leads_there = refl

-- a range that is all of its parent's is inside it; that its first bus is above its own is another condition
all_of_its_parents_range : is_inside_its_parents host (on_bus 0 1 1 2 ∷ []) (on_bus 1 0 1 2) ≡ true
all_of_its_parents_range = refl

root_that_is_the_first_bus_behind : lawful (0 ∷ 0x40 ∷ []) (on_bus 0 1 64 65 ∷ []) ≡ false ∷ []
root_that_is_the_first_bus_behind = refl

roots_between_ranges : lawful (0 ∷ 0x40 ∷ []) (on_bus 0 1 1 63 ∷ on_bus 64 1 65 255 ∷ []) ≡ true ∷ true ∷ []
roots_between_ranges = refl

ranges_of_two_roots_that_share_a_bus : lawful (0 ∷ 6 ∷ []) (on_bus 0 1 7 9 ∷ on_bus 6 0 8 8 ∷ []) ≡ true ∷ false ∷ []
ranges_of_two_roots_that_share_a_bus = refl

ranges_of_two_roots_side_by_side : lawful (0 ∷ 6 ∷ []) (on_bus 0 1 7 9 ∷ on_bus 6 0 10 10 ∷ []) ≡ true ∷ true ∷ []
ranges_of_two_roots_side_by_side = refl

primary_is_not_its_own_bus : has_bus_order (bridge (slot 0 1 0) 0 0x20102 [] []) ≡ false
primary_is_not_its_own_bus = refl

-- 255 bridges in a row, bus after bus, each with all the buses above its own
abbrev row : System
row = map (λ bus. on_bus bus 0 (bus + 1) 255) (range_with_len 0 255)

longest_way : list_all (has_lawful_buses host row) row ≡ true
longest_way = refl

last_bus_of_the_longest_way_is_led_to : is_led_to host row 255 ≡ true
last_bus_of_the_longest_way_is_led_to = refl

-- ---- buses that are led to

root_is_led_to : is_led_to host [] 0 ≡ true
root_is_led_to = refl

bus_that_no_bridge_leads_to : is_led_to host (device (slot 5 0 0) 0 [] [] ∷ []) 5 ≡ false
bus_that_no_bridge_leads_to = refl

secondary_bus_is_led_to : is_led_to host (on_bus 0 1 5 7 ∷ []) 5 ≡ true
secondary_bus_is_led_to = refl

bus_inside_a_range_is_not : is_led_to host (on_bus 0 1 5 7 ∷ []) 6 ≡ false
bus_inside_a_range_is_not = refl

device_leads_to_no_bus : is_led_to host (device (slot 0 1 0) 0 ((0x18, 0x00050500) ∷ []) [] ∷ []) 5 ≡ false
device_leads_to_no_bus = refl

second_root_is_led_to : is_led_to (0 ∷ 0x40 ∷ []) [] 0x40 ≡ true
second_root_is_led_to = refl

bus_0_is_no_root_of_its_own : is_led_to (0x40 ∷ []) [] 0 ≡ false
bus_0_is_no_root_of_its_own = refl

-- ---- ranges

buses_behind_from_secondary_to_subordinate : map (is_behind (on_bus 0 1 2 4)) (1 ∷ 2 ∷ 4 ∷ 5 ∷ []) ≡ false ∷ true ∷ true ∷ false ∷ []
buses_behind_from_secondary_to_subordinate = refl

apart_on_both_sides : are_apart (on_bus 0 1 1 2) (on_bus 0 2 3 4) ∷ are_apart (on_bus 0 1 3 4) (on_bus 0 2 1 2) ∷ are_apart (on_bus 0 1 1 3) (on_bus 0 2 3 4) ∷ [] ≡ true ∷ true ∷ false ∷ []
apart_on_both_sides = refl

range_is_inside_itself_and_not_strictly : is_inside (on_bus 0 1 1 2) (on_bus 0 2 1 2) ∷ is_strictly_inside (on_bus 0 1 1 2) (on_bus 0 2 1 2) ∷ [] ≡ true ∷ false ∷ []
range_is_inside_itself_and_not_strictly = refl

strictly_inside_from_either_end : is_strictly_inside (on_bus 0 1 2 4) (on_bus 0 2 1 4) ∷ is_strictly_inside (on_bus 0 1 1 3) (on_bus 0 2 1 4) ∷ is_strictly_inside (on_bus 0 1 2 5) (on_bus 0 2 1 4) ∷ is_strictly_inside (on_bus 0 1 0 3) (on_bus 0 2 1 4) ∷ [] ≡ true ∷ true ∷ false ∷ false ∷ []
strictly_inside_from_either_end = refl

root_behind_from_first_to_last : map (λ root. has_no_root_behind (0 ∷ root ∷ []) (on_bus 0 1 2 4)) (1 ∷ 2 ∷ 4 ∷ 5 ∷ []) ≡ true ∷ false ∷ false ∷ true ∷ []
root_behind_from_first_to_last = refl

-- ---- ranges that are crossed

-- the range from bus 5 down to 3 holds no bus, so it shares none with one round it, in it or across either end
crossed_range_shares_no_bus :
    map (share_no_bus (on_bus 0 1 5 3)) (on_bus 0 2 2 9 ∷ on_bus 0 2 4 4 ∷ on_bus 0 2 2 3 ∷ on_bus 0 2 5 6 ∷ on_bus 0 2 5 3 ∷ []) ≡ true ∷ true ∷ true ∷ true ∷ true ∷ []
crossed_range_shares_no_bus = refl

no_range_shares_a_bus_with_a_crossed_one :
    map (λ b. share_no_bus b (on_bus 0 1 5 3)) (on_bus 0 2 2 9 ∷ on_bus 0 2 4 4 ∷ on_bus 0 2 2 3 ∷ on_bus 0 2 5 6 ∷ []) ≡ true ∷ true ∷ true ∷ true ∷ []
no_range_shares_a_bus_with_a_crossed_one = refl

one_bus_is_shared : share_no_bus (on_bus 0 1 1 3) (on_bus 0 2 3 4) ∷ share_no_bus (on_bus 0 1 3 4) (on_bus 0 2 1 3) ∷ share_no_bus (on_bus 0 1 3 3) (on_bus 0 2 2 4) ∷ [] ≡ false ∷ false ∷ false ∷ []
one_bus_is_shared = refl

-- the crossed bridge is the one whose numbers don't fit, whichever comes first
crossed_range_before_one_round_it : lawful host (on_bus 0 1 5 3 ∷ on_bus 0 2 2 9 ∷ []) ≡ false ∷ true ∷ []
crossed_range_before_one_round_it = refl

crossed_range_behind_one_round_it : lawful host (on_bus 0 1 2 9 ∷ on_bus 0 2 5 3 ∷ []) ≡ true ∷ false ∷ []
crossed_range_behind_one_round_it = refl
