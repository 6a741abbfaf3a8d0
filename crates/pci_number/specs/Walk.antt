-- The walk over a board: which nodes it finds, and in which order (PCI 3.0, 3.2.2.3.4 and 6.2.1).
use Rattle.std.specs.Prelude.{ℕ, ◌==◌, nat_lt, Bool, true, false, ◌&&◌, ◌||◌, not, if◌then◌else◌, List, [], ◌∷◌, ◌++◌, map}
use Rattle.pci_spec.specs.Number.{byte_at, has_bit}
use Rattle.pci_spec.specs.Registers.{HEADER_TYPE}
use Rattle.pci_spec.specs.Header.{vendor_id, secondary_bus}
use Rattle.pci_number.specs.Board.{Nodes, NoMore, Node, NodePlace, Here, Behind, Next, is_type_1}

-- whether function 0 of a device is on a bus, with bit 7 of its header type: the device has more
-- functions
abbrev pub has_more : Nodes → ℕ → Bool
has_more NoMore device = false
has_more (Node d function image behind others) device =
    (d == device && function == 0 && has_bit (byte_at image HEADER_TYPE) 7)
    || has_more others device

-- whether the walk over a bus looks for a function of a device
abbrev pub is_found : Nodes → ℕ → ℕ → Bool
is_found bus device function = function == 0 || has_more bus device

-- whether a bridge has a bus on its other side that is numbered: bus 0 is never behind a bridge
abbrev pub has_bus : List ℕ → Bool
has_bus image = is_type_1 image && not (secondary_bus image == 0)

-- The places that the walk comes to, in its order: on a bus by device and function, which is how
-- its nodes stand, and a bridge before what is behind it. The first argument is all of the bus that
-- the nodes are on.
abbrev pub walk : Nodes → Nodes → List NodePlace
walk bus NoMore = []
walk bus (Node device function image behind others) =
    (if is_found bus device function
    then Here ∷ map Behind (if has_bus image then walk behind behind else []) else [])
    ++ map Next (walk bus others)

-- whether one device and function comes before another
abbrev pub slot_comes_before : ℕ → ℕ → ℕ → ℕ → Bool
slot_comes_before device function d f = nat_lt device d || (device == d && nat_lt function f)

-- whether all these nodes come after a device and function
abbrev pub all_after : ℕ → ℕ → Nodes → Bool
all_after device function NoMore = true
all_after device function (Node d f image behind others) =
    slot_comes_before device function d f && all_after device function others

-- whether the nodes on each bus stand in rising order, no two with one device and function
abbrev pub is_rising : Nodes → Bool
is_rising NoMore = true
is_rising (Node device function image behind others) =
    all_after device function others && is_rising behind && is_rising others

-- whether the walk over each bus finds all that is there: FFFFh is read where no node answers
abbrev pub is_all_found : Nodes → Nodes → Bool
is_all_found bus NoMore = true
is_all_found bus (Node device function image behind others) =
    nat_lt device 32 && nat_lt function 8 && not (vendor_id image == 0xffff)
    && is_found bus device function && is_all_found behind behind && is_all_found bus others

-- whether a walk finds each node, in the order in which they stand
abbrev pub is_walkable : Nodes → Bool
is_walkable nodes = is_rising nodes && is_all_found nodes nodes
