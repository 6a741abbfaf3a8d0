-- Sample boards for the examples.
use Rattle.std.proofs.Common.{ℕ, ◌/◌, ◌%◌, List, [], ◌∷◌, replicate, set}
use Rattle.pci_spec.specs.Slot.{Slot}
use Rattle.pci_number.specs.Board.{Nodes, NoMore, Node, Board}

-- an image of vendor 1234h with a header type and three bus numbers, which stand in one number as they are
-- read: primary, secondary, subordinate
abbrev pub image : ℕ → ℕ → List ℕ
image header numbers =
    set (set (set (set (set (set (replicate 256 0) 0 0x34) 1 0x12) 14 header) 0x18 (numbers / 65536)) 0x19 (numbers / 256 % 256)) 0x1a (numbers % 256)

-- a device, a bridge, and each of these as function 0 of more
abbrev pub device : ℕ → ℕ → Nodes → Nodes
device d f others = Node d f (image 0 0) NoMore others

abbrev pub bridge : ℕ → ℕ → ℕ → Nodes → Nodes → Nodes
bridge d f numbers behind others = Node d f (image 1 numbers) behind others

abbrev pub first_device : ℕ → Nodes → Nodes
first_device d others = Node d 0 (image 0x80 0) NoMore others

abbrev pub first_bridge : ℕ → ℕ → Nodes → Nodes → Nodes
first_bridge d numbers behind others = Node d 0 (image 0x81 numbers) behind others

abbrev pub slot : ℕ → ℕ → ℕ → Slot
slot b d f = record { bus = b; device = d; function = f }

-- a board with one root, bus 0
abbrev pub board : Nodes → Board
board nodes = record { number = 0; nodes = nodes } ∷ []

-- one device on a bus
abbrev pub one : Nodes
one = device 0 0 NoMore

-- two devices
abbrev pub devices : Nodes
devices = device 1 0 (device 2 0 NoMore)

-- a bridge with a device behind it
abbrev pub single_bridge : ℕ → Nodes
single_bridge m = bridge 1 0 m one NoMore

-- a bridge with two bridges behind it, and another beside it with nothing behind
abbrev pub tree : ℕ → ℕ → ℕ → ℕ → Nodes
tree m n o p = bridge 1 0 m (bridge 0 0 n one (bridge 1 0 o one NoMore)) (bridge 2 0 p NoMore NoMore)

-- two bridges side by side, a device behind each
abbrev pub pair : ℕ → ℕ → Nodes
pair m n = bridge 1 0 m one (bridge 2 0 n one NoMore)

-- two bridges side by side behind a third
abbrev pub fork : ℕ → ℕ → ℕ → Nodes
fork m n o = bridge 1 0 m (bridge 0 0 n one (bridge 1 0 o one NoMore)) NoMore

-- two bridges that are functions of one device
abbrev pub two_functions : ℕ → ℕ → Nodes
two_functions m n = first_bridge 0x1c m one (bridge 0x1c 4 n NoMore NoMore)

-- bridges in a row, each behind the one before it
abbrev pub row : ℕ → ℕ → ℕ → Nodes
row m n o = bridge 1 0 m (bridge 0 0 n (bridge 0 0 o one NoMore) NoMore) NoMore
