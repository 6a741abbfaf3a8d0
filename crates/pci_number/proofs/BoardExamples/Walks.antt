-- What the walk finds, and in which order.
use Rattle.std.proofs.Common.{◌≡◌, [], ◌∷◌, refl, true, false, map, replicate}
use Rattle.pci_number.specs.Board.{Nodes, NoMore, Node, Here, Behind, Next}
use Rattle.pci_number.specs.Walk.{has_more, is_found, has_bus, slot_comes_before, all_after, is_rising, is_walkable, walk}
use Rattle.pci_number.proofs.BoardExamples.Boards.{image, device, bridge, first_device, first_bridge, devices, tree, pair, two_functions}

-- a bridge comes before what is behind it, and that before what follows on its own bus
tree_in_order : walk (tree 0x000103 0x010202 0x010303 0x000404) (tree 0x000103 0x010202 0x010303 0x000404) ≡ Here ∷ Behind Here ∷ Behind (Behind Here) ∷ Behind (Next Here) ∷ Behind (Next (Behind Here)) ∷ Next Here ∷ []
tree_in_order = refl

-- nothing is found behind a bridge that has no bus
nothing_behind_a_bridge_without_a_bus : walk (pair 0x000101 0) (pair 0x000101 0) ≡ Here ∷ Behind Here ∷ Next Here ∷ []
nothing_behind_a_bridge_without_a_bus = refl

bus_by_secondary_number : map has_bus (image 1 0x000100 ∷ image 1 0x010001 ∷ image 0 0x000101 ∷ image 0x81 0x000101 ∷ []) ≡ true ∷ false ∷ false ∷ true ∷ []
bus_by_secondary_number = refl

-- functions above 0 by bit 7 of function 0 alone
functions_of_devices : map (λ nodes. is_found nodes 1 4) (first_device 1 NoMore ∷ first_bridge 1 0 NoMore NoMore ∷ device 1 0 NoMore ∷ Node 1 3 (image 0x80 0) NoMore NoMore ∷ first_device 2 NoMore ∷ NoMore ∷ []) ≡ true ∷ true ∷ false ∷ false ∷ false ∷ false ∷ []
functions_of_devices = refl

function_0_is_looked_for : is_found NoMore 1 0 ≡ true
function_0_is_looked_for = refl

-- a bridge on another bus doesn't say what there is on this one
function_0_behind_a_bridge_is_elsewhere : has_more (bridge 1 0 0x000101 (first_device 2 NoMore) NoMore) 2 ≡ false
function_0_behind_a_bridge_is_elsewhere = refl

second_function_is_found : walk (two_functions 0 0) (two_functions 0 0) ≡ Here ∷ Next Here ∷ []
second_function_is_found = refl

second_function_is_not_found : walk (device 1 0 (device 1 4 NoMore)) (device 1 0 (device 1 4 NoMore)) ≡ Here ∷ []
second_function_is_not_found = refl

-- function 0 of a device is looked for on the bus that the device is on
abbrev functions_behind : Nodes
functions_behind = bridge 1 0 0x000101 (first_device 3 (device 3 1 NoMore)) (device 3 1 NoMore)

function_behind_is_found : walk functions_behind functions_behind ≡ Here ∷ Behind Here ∷ Behind (Next Here) ∷ []
function_behind_is_found = refl

-- ---- order

device_goes_before_function : slot_comes_before 1 7 2 0 ∷ slot_comes_before 2 0 1 7 ∷ slot_comes_before 1 0 1 1 ∷ slot_comes_before 1 0 1 0 ∷ [] ≡ true ∷ false ∷ true ∷ false ∷ []
device_goes_before_function = refl

rising : map is_rising (devices ∷ device 2 0 (device 1 0 NoMore) ∷ device 1 0 (device 1 0 NoMore) ∷ bridge 1 0 0 devices NoMore ∷ bridge 3 0 0 devices NoMore ∷ bridge 1 0 0 (device 2 0 (device 1 0 NoMore)) NoMore ∷ device 1 0 (device 2 0 (device 1 0 NoMore)) ∷ []) ≡ true ∷ false ∷ false ∷ true ∷ true ∷ false ∷ false ∷ []
rising = refl

-- each of those that follow is above a node, and those are in order themselves
rising_throughout : is_rising (device 1 0 (device 3 0 (device 2 0 NoMore))) ∷ all_after 2 0 (device 3 0 (device 1 0 NoMore)) ∷ all_after 0 1 (device 1 0 (device 3 0 NoMore)) ∷ [] ≡ false ∷ false ∷ true ∷ []
rising_throughout = refl

-- ---- walkable boards

walkable : map is_walkable (NoMore ∷ devices ∷ tree 0 0 0 0 ∷ two_functions 0 0 ∷ []) ≡ true ∷ true ∷ true ∷ true ∷ []
walkable = refl

-- no function 0, one without bit 7, no device 32, no function 8, no vendor, nodes out of order
not_walkable : map is_walkable (device 1 4 NoMore ∷ device 1 0 (device 1 4 NoMore) ∷ device 32 0 NoMore ∷ first_device 1 (device 1 8 NoMore) ∷ Node 1 0 (replicate 256 0xff) NoMore NoMore ∷ device 2 0 (device 1 0 NoMore) ∷ bridge 1 0 0 (device 1 4 NoMore) NoMore ∷ []) ≡ false ∷ false ∷ false ∷ false ∷ false ∷ false ∷ false ∷ []
not_walkable = refl
