-- What accesses read and write, and which bridge is the first without a number.
use Rattle.std.proofs.Common.{◌≡◌, [], ◌∷◌, refl, map, Some, None}
use Rattle.pci_number.specs.Board.{Nodes, NoMore, Here, Behind, Next, Board}
use Rattle.pci_number.specs.Access.{nodes_behind, image_of, with_byte, with_byte_of}
use Rattle.pci_number.specs.NoBus.{first_without}
use Rattle.pci_number.proofs.BoardExamples.Boards.{image, device, bridge, slot, one, devices, single_bridge, tree, pair}

-- two roots, 0 and 40h
abbrev roots : Nodes → Nodes → Board
roots low high = record { number = 0; nodes = low } ∷ record { number = 0x40; nodes = high } ∷ []

nodes_by_root : map (nodes_behind (roots one devices)) (0 ∷ 0x40 ∷ 1 ∷ []) ≡ one ∷ devices ∷ NoMore ∷ []
nodes_by_root = refl

image_by_root_and_place : image_of (roots one (single_bridge 0x404141)) (0x40, Here) ∷ image_of (roots one (single_bridge 0x404141)) (0x40, Behind Here) ∷ [] ≡ image 1 0x404141 ∷ image 0 0 ∷ []
image_by_root_and_place = refl

-- a byte of that node alone
byte_of_a_bridge : with_byte (tree 0 0 0 0) Here 0x19 7 ≡ tree 0x000700 0 0 0
byte_of_a_bridge = refl

byte_of_a_bridge_behind : with_byte (tree 0 0 0 0) (Behind Here) 0x1a 7 ≡ tree 0 0x000007 0 0
byte_of_a_bridge_behind = refl

byte_of_the_next : with_byte (tree 0 0 0 0) (Behind (Next Here)) 0x18 7 ≡ tree 0 0 0x070000 0
byte_of_the_next = refl

byte_of_the_last : with_byte (tree 0 0 0 0) (Next Here) 0x1a 7 ≡ tree 0 0 0 0x000007
byte_of_the_last = refl

no_byte_of_no_node : with_byte (pair 0 0) (Next (Next Here)) 0x19 7 ≡ pair 0 0
no_byte_of_no_node = refl

-- behind that root alone
byte_behind_a_root : with_byte_of (roots (single_bridge 0) (single_bridge 0)) (0x40, Here) 0x19 0x41 ≡ roots (single_bridge 0) (single_bridge 0x004100)
byte_behind_a_root = refl

byte_behind_the_first_root : with_byte_of (roots (single_bridge 0) (single_bridge 0)) (0, Here) 0x19 1 ≡ roots (single_bridge 0x000100) (single_bridge 0)
byte_behind_the_first_root = refl

-- ---- the first bridge without a number

first_of_a_tree : map (first_without 0) (tree 0x000103 0x010202 0x010303 0x000404 ∷ tree 0x000103 0x010202 0x010303 0 ∷ tree 0x000102 0x010202 0 0 ∷ tree 0x000101 0 0 0 ∷ tree 0 0 0 0 ∷ []) ≡ None ∷ Some (slot 0 2 0) ∷ Some (slot 1 1 0) ∷ Some (slot 1 0 0) ∷ Some (slot 0 1 0) ∷ []
first_of_a_tree = refl

-- of a bridge without a number none behind it is named, and no device is
behind_none_is_named : first_without 0 (bridge 1 0 0 (bridge 2 0 0 NoMore NoMore) NoMore) ∷ first_without 3 devices ∷ first_without 3 (device 1 0 (bridge 2 5 0 NoMore NoMore)) ∷ [] ≡ Some (slot 0 1 0) ∷ None ∷ Some (slot 3 2 5) ∷ []
behind_none_is_named = refl

-- bus 0 isn't behind a bridge, whatever its other numbers are
number_without_a_bus : first_without 0 (bridge 1 0 0x010001 NoMore NoMore) ≡ Some (slot 0 1 0)
number_without_a_bus = refl
