-- Which nodes answer an access.
use Rattle.std.proofs.Common.{◌≡◌, ℕ, List, [], ◌∷◌, refl, true, false, map, length, arith}
use Rattle.pci_number.specs.Board.{Nodes, NoMore, Node, NodePlace, Here, Behind, Next, Board, passes_on, goes_to, answers, access_of, node_image, HasOneAnswer}
use Rattle.pci_number.proofs.BoardExamples.Boards.{image, device, bridge, slot, board, one, devices, single_bridge, tree, pair, fork, row}

-- how many nodes answer at a device and function of some buses
abbrev counts : Board → ℕ → ℕ → List ℕ → List ℕ
counts b d f buses = map (λ bus. length (answers b (slot bus d f))) buses

second_device_answers : answers (board devices) (slot 0 2 0) ≡ (0, Next Here) ∷ []
second_device_answers = refl

-- device and function are two numbers
function_is_no_device : counts (board (device 1 2 NoMore)) 2 1 (0 ∷ []) ≡ 0 ∷ []
function_is_no_device = refl

other_function_does_not_answer : counts (board devices) 2 1 (0 ∷ []) ≡ 0 ∷ []
other_function_does_not_answer = refl

device_and_function_answer : answers (board (device 1 2 NoMore)) (slot 0 1 2) ≡ (0, Here) ∷ []
device_and_function_answer = refl

-- a bridge answers on its own bus too
bridge_answers : answers (board (single_bridge 0x000505)) (slot 0 1 0) ≡ (0, Here) ∷ []
bridge_answers = refl

device_behind_answers_on_secondary_bus : answers (board (single_bridge 0x000505)) (slot 5 0 0) ≡ (0, Behind Here) ∷ []
device_behind_answers_on_secondary_bus = refl

-- further on the device behind it doesn't answer: only bridges there would look at the access
device_behind_does_not_answer_further_on : counts (board (single_bridge 0x000509)) 0 0 (4 ∷ 5 ∷ 6 ∷ 9 ∷ 10 ∷ []) ≡ 0 ∷ 1 ∷ 0 ∷ 0 ∷ 0 ∷ []
device_behind_does_not_answer_further_on = refl

-- the secondary number alone says where what is behind answers, whatever the subordinate number
crossed_range_leads_to_its_secondary_bus : counts (board (single_bridge 0x000503)) 0 0 (3 ∷ 4 ∷ 5 ∷ []) ≡ 0 ∷ 0 ∷ 1 ∷ []
crossed_range_leads_to_its_secondary_bus = refl

-- what is passed on is above the secondary bus, up to the subordinate one
passed_on : map (passes_on (image 1 0x000508)) (4 ∷ 5 ∷ 6 ∷ 8 ∷ 9 ∷ []) ≡ false ∷ false ∷ true ∷ true ∷ false ∷ []
passed_on = refl

-- a bridge without numbers passes nothing on, and bus 0 is the root's own
nothing_without_numbers : counts (board (single_bridge 0)) 0 0 (0 ∷ 1 ∷ 255 ∷ []) ≡ 0 ∷ 0 ∷ 0 ∷ []
nothing_without_numbers = refl

-- a secondary number of 0 alone stops nothing: each bus up to the subordinate one is passed on
secondary_0_passes_on : answers (board (fork 0x0000ff 0x010707 0)) (slot 7 0 0) ≡ (0, Behind (Behind Here)) ∷ []
secondary_0_passes_on = refl

subordinate_0_passes_nothing_on : counts (board (fork 0x000000 0x010707 0)) 0 0 (7 ∷ []) ≡ 0 ∷ []
subordinate_0_passes_nothing_on = refl

-- ... and no further than the subordinate one
secondary_0_passes_on_up_to_subordinate : counts (board (fork 0x000006 0x010606 0x010707)) 0 0 (6 ∷ 7 ∷ []) ≡ 1 ∷ 0 ∷ []
secondary_0_passes_on_up_to_subordinate = refl

-- the primary number plays no part
primary_plays_no_part : answers (board (single_bridge 0x630505)) (slot 5 0 0) ≡ (0, Behind Here) ∷ []
primary_plays_no_part = refl

-- each bridge on the way has to pass an access on
third_bridge_leads_on : answers (board (row 0x000103 0x010203 0x020303)) (slot 3 0 0) ≡ (0, Behind (Behind (Behind Here))) ∷ []
third_bridge_leads_on = refl

first_bridge_stops_it : counts (board (row 0x000102 0x010203 0x020303)) 0 0 (2 ∷ 3 ∷ []) ≡ 1 ∷ 0 ∷ []
first_bridge_stops_it = refl

-- at the secondary bus of one bridge those behind it don't look at the access
secondary_bus_comes_first : answers (board (row 0x000103 0x010103 0)) (slot 1 0 0) ≡ (0, Behind Here) ∷ []
secondary_bus_comes_first = refl

-- a header of type 0 has registers of another meaning at these places
device_leads_nowhere : counts (board (Node 1 0 (image 0 0x000505) one NoMore)) 0 0 (5 ∷ []) ≡ 0 ∷ []
device_leads_nowhere = refl

device_passes_nothing_on : counts (board (Node 1 0 (image 0 0x000509) (bridge 0 0 0x050707 one NoMore) NoMore)) 0 0 (7 ∷ []) ≡ 0 ∷ []
device_passes_nothing_on = refl

-- ---- two answers

equal_secondary_numbers_answer_twice : answers (board (pair 0x000509 0x000505)) (slot 5 0 0) ≡ (0, Behind Here) ∷ (0, Next (Behind Here)) ∷ []
equal_secondary_numbers_answer_twice = refl

pair_with_equal_numbers_is_not_single : HasOneAnswer (board (pair 0x000509 0x000505)) → ⊥
pair_with_equal_numbers_is_not_single single = absurd (omega (arith, single (slot 5 0 0)))

-- equal numbers behind a bridge answer twice once it passes their bus on
equal_numbers_behind_a_closed_bridge : map (λ m. length (answers (board (fork m 0x010707 0x010707)) (slot 7 0 0))) (0x000000 ∷ 0x000101 ∷ 0x0001ff ∷ []) ≡ 0 ∷ 0 ∷ 2 ∷ []
equal_numbers_behind_a_closed_bridge = refl

fork_with_equal_numbers_is_not_single : HasOneAnswer (board (fork 0x0001ff 0x010707 0x010707)) → ⊥
fork_with_equal_numbers_is_not_single single = absurd (omega (arith, single (slot 7 0 0)))

two_nodes_at_one_place_are_not_single : HasOneAnswer (board (device 1 0 (device 1 0 NoMore))) → ⊥
two_nodes_at_one_place_are_not_single single = absurd (omega (arith, single (slot 0 1 0)))

-- ---- roots

abbrev roots : Board
roots = record { number = 0; nodes = single_bridge 0x0001ff } ∷ record { number = 0x40; nodes = device 0 0 NoMore } ∷ []

root_on_a_bus : map (λ bus. map (goes_to roots bus) roots) (0 ∷ 0x3f ∷ 0x40 ∷ 0xff ∷ []) ≡ (true ∷ false ∷ []) ∷ (true ∷ false ∷ []) ∷ (false ∷ true ∷ []) ∷ (false ∷ true ∷ []) ∷ []
root_on_a_bus = refl

second_root_answers_its_own_bus : answers roots (slot 0x40 0 0) ≡ (0x40, Here) ∷ []
second_root_answers_its_own_bus = refl

first_root_answers_behind_its_bridge : answers roots (slot 1 0 0) ≡ (0, Behind Here) ∷ []
first_root_answers_behind_its_bridge = refl

-- no root has a bus below its own
no_root_below_the_first : counts (record { number = 0x40; nodes = bridge 1 0 0x000505 one NoMore } ∷ []) 0 0 (0 ∷ 5 ∷ []) ≡ 0 ∷ 0 ∷ []
no_root_below_the_first = refl

-- ---- the access that a node answers

abbrev numbered : Nodes
numbered = tree 0x000103 0x010202 0x010303 0x000404

abbrev places : List NodePlace
places = Here ∷ Behind Here ∷ Behind (Behind Here) ∷ Behind (Next Here) ∷ Behind (Next (Behind Here)) ∷ Next Here ∷ []

-- to the bus that it is on, not to the one behind it
accesses_of_nodes : map (access_of 0 numbered) places ≡ slot 0 1 0 ∷ slot 1 0 0 ∷ slot 2 0 0 ∷ slot 1 1 0 ∷ slot 3 0 0 ∷ slot 0 2 0 ∷ []
accesses_of_nodes = refl

nodes_answer_them : map (λ place. answers (board numbered) (access_of 0 numbered place)) places ≡ map (λ place. (0, place) ∷ []) places
nodes_answer_them = refl

images_at_places : map (node_image numbered) places ≡ image 1 0x000103 ∷ image 1 0x010202 ∷ image 0 0 ∷ image 1 0x010303 ∷ image 0 0 ∷ image 1 0x000404 ∷ []
images_at_places = refl
