-- A board, and the nodes on it that answer an access to configuration space (Bridge 1.2,
-- 3.1.2.1.2).
use Rattle.std.specs.Prelude.{ℕ, ◌==◌, ◌≤◌, nat_lt, nat_le, Bool, ◌&&◌, ◌||◌, if◌then◌else◌, List, [], ◌∷◌, ◌++◌, map, length}
use Rattle.std.specs.List.{list_all, filter, flat_map}
use Rattle.pci_spec.specs.Slot.{Slot}
use Rattle.pci_spec.specs.Header.{layout, secondary_bus, subordinate_bus}

-- The nodes on one bus, one after the other: each has a device number, a function number and an
-- image, then come the nodes on its other side, and those that follow it on its bus.
pub data Nodes : Type 0 where
  NoMore : Nodes
  Node : ℕ → ℕ → List ℕ → Nodes → Nodes → Nodes

-- a root bus: its number, and the nodes on it
pub record RootBus : Type 0 where
  pub number : ℕ
  pub nodes : Nodes

abbrev pub Board : Type 0
Board = List RootBus

-- the place of a node, from the first node on a bus on: it is this one, or it is on this one's
-- other side, or it is among those that follow
pub data NodePlace : Type 0 where
  Here : NodePlace
  Behind : NodePlace → NodePlace
  Next : NodePlace → NodePlace

-- whether a node has a type 1 header: only then there are nodes on its other side
abbrev pub is_type_1 : List ℕ → Bool
is_type_1 image = layout image == 1

-- the nodes on a bus with the device and the function of an access
abbrev pub on_bus : Nodes → Slot → List NodePlace
on_bus NoMore access = []
on_bus (Node device function image behind others) access =
    (if device == access.device && function == access.function then Here ∷ [] else [])
    ++ map Next (on_bus others access)

-- whether a bridge passes an access to a bus on to the bridges on its other side
abbrev pub passes_on : List ℕ → ℕ → Bool
passes_on image bus = nat_lt (secondary_bus image) bus && nat_le bus (subordinate_bus image)

-- The nodes that answer an access to a bus other than this one. Each bridge on this bus looks at
-- it: on its secondary bus the nodes there answer, further on the bridges there look at it, else it
-- ends here.
abbrev pub behind_bridges : Nodes → Slot → List NodePlace
behind_bridges NoMore access = []
behind_bridges (Node device function image behind others) access =
    map Behind (if is_type_1 image && secondary_bus image == access.bus then on_bus behind access
    else if is_type_1 image && passes_on image access.bus then behind_bridges behind access else [])
    ++ map Next (behind_bridges others access)

-- the nodes at a root that answer an access that goes to it
abbrev pub at_root : RootBus → Slot → List NodePlace
at_root root access =
    if root.number == access.bus then on_bus root.nodes access else behind_bridges root.nodes access

-- whether an access to a bus goes to a root: no root has a greater number that isn't above the bus
abbrev pub goes_to : Board → ℕ → RootBus → Bool
goes_to board bus root =
    nat_le root.number bus
    && list_all (λ other. nat_le other.number root.number || nat_lt bus other.number) board

-- the nodes that answer an access, each with the number of its root
abbrev pub answers : Board → Slot → List (ℕ × NodePlace)
answers board access =
    flat_map (λ root. map (λ place. (root.number, place)) (at_root root access))
    (filter (goes_to board access.bus) board)

-- each access is answered by one node at most
abbrev pub HasOneAnswer : Board → Type 0
HasOneAnswer board = (access : Slot) → length (answers board access) ≤ 1

-- the one access that a node answers: that to the bus that it is on, its device and its function
abbrev pub access_of : ℕ → Nodes → NodePlace → Slot
access_of bus NoMore place = record { bus = bus; device = 0; function = 0 }
access_of bus (Node device function image behind others) Here =
    record { bus = bus; device = device; function = function }
access_of bus (Node device function image behind others) (Behind place) =
    access_of (secondary_bus image) behind place
access_of bus (Node device function image behind others) (Next place) = access_of bus others place

-- the image of the node at a place
abbrev pub node_image : Nodes → NodePlace → List ℕ
node_image NoMore place = []
node_image (Node device function image behind others) Here = image
node_image (Node device function image behind others) (Behind place) = node_image behind place
node_image (Node device function image behind others) (Next place) = node_image others place
