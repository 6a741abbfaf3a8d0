-- What a walk comes to of a board.
use Rattle.std.specs.Prelude.{Bool, true, false, ◌&&◌, ◌||◌, if◌then◌else◌}
use Rattle.pci_number.specs.Board.{Nodes, NoMore, Node, is_type_1}
use Rattle.pci_number.specs.Walk.{has_bus}

-- the nodes without those behind a bridge that has no bus: no access gets there
abbrev pub reached : Nodes → Nodes
reached NoMore = NoMore
reached (Node device function image behind others) =
    Node device function image (if has_bus image then reached behind else NoMore) (reached others)

abbrev pub is_none : Nodes → Bool
is_none NoMore = true
is_none (Node device function image behind others) = false

-- whether only bridges have nodes on their other side
abbrev pub only_bridges_lead : Nodes → Bool
only_bridges_lead NoMore = true
only_bridges_lead (Node device function image behind others) =
    (is_type_1 image || is_none behind) && only_bridges_lead behind && only_bridges_lead others
