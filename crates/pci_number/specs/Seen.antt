-- How a bus is seen while the bridges above it have numbers and those beside these are closed.
use Rattle.std.specs.Prelude.{◌≡◌, ◌≢◌, ℕ, ◌+◌, ◌*◌, ◌<◌, ◌≤◌, ◌==◌, ◌⊎◌, Bool, true, false, ◌||◌, if◌then◌else◌, List, map, set}
use Rattle.pci_spec.specs.Slot.{Slot}
use Rattle.pci_spec.specs.Number.{byte_at, has_bit}
use Rattle.pci_spec.specs.Registers.{HEADER_TYPE}
use Rattle.pci_spec.specs.Header.{vendor_id}
use Rattle.pci_number.specs.Board.{Nodes, NoMore, Node, Board, NodePlace, is_type_1, on_bus, behind_bridges, node_image, answers}
use Rattle.pci_number.specs.Access.{image_of, with_byte, with_byte_of}
use Rattle.pci_number.specs.Walk.{all_after, is_walkable}
use Rattle.pci_number.specs.Room.{shows}

-- A board in which some nodes are left out: the board with them, and where their places are on it.
pub record View : Type 0 where
  pub fill : Nodes → Board
  pub at : NodePlace → ℕ × NodePlace

-- the place of a device and function on its bus
abbrev pub code : Slot → ℕ
code slot = slot.device * 8 + slot.function

-- The nodes that are left out are the last ones of a bus, from a place on. They alone answer there,
-- and what is behind them alone answers on the buses above `high`, up to `last`.
pub record IsSeen (v : View) (bus : ℕ) (from : ℕ) (high : ℕ) (last : ℕ) : Type 0 where
  pub here : (nodes : Nodes) (access : Slot) → access.bus ≡ bus → from ≤ code access
      → answers (v.fill nodes) access ≡ map v.at (on_bus nodes access)
  pub behind : (nodes : Nodes) (access : Slot) → high < access.bus → access.bus ≤ last
      → answers (v.fill nodes) access ≡ map v.at (behind_bridges nodes access)
  pub image : (nodes : Nodes) (place : NodePlace)
      → image_of (v.fill nodes) (v.at place) ≡ node_image nodes place
  pub byte : (nodes : Nodes) (place : NodePlace) (offset value : ℕ)
      → with_byte_of (v.fill nodes) (v.at place) offset value
      ≡ v.fill (with_byte nodes place offset value)

-- an image is as it was but for the byte at an offset
abbrev pub IsKeptBut : ℕ → List ℕ → List ℕ → Type 0
IsKeptBut offset image after = (after ≡ image) ⊎ ((kept : ℕ) × (after ≡ set image offset kept))

-- The last nodes of a bus from a place on, each found by a walk: a function above 0 is one of the
-- device that had function 0, and had it as the first of more.
abbrev pub AreLastNodes : ℕ → ℕ → Bool → Nodes → Type 0
AreLastNodes place device more NoMore = Unit {0}
AreLastNodes place device more (Node d f image behind others) =
    (place ≤ d * 8 + f) × (f < 8) × (vendor_id image ≢ 0xffff)
    × (f ≢ 0 → (d ≡ device) × (more ≡ true)) × (is_walkable behind ≡ true)
    × (all_after d f others ≡ true) × (d < 32)
    × AreLastNodes (d * 8 + f + 1) (if f == 0 then d else device)
    (if f == 0 then has_bit (byte_at image HEADER_TYPE) 7 else more) others

-- the bridges on a bus show 0 in all three numbers
abbrev pub IsClosed : Nodes → Type 0
IsClosed NoMore = Unit {0}
IsClosed (Node d f image behind others) =
    (is_type_1 image ≡ true → shows image 0 0 0 ≡ true) × IsClosed others

-- whether there is a bridge on a bus
abbrev pub has_bridges : Nodes → Bool
has_bridges NoMore = false
has_bridges (Node d f image behind others) = is_type_1 image || has_bridges others
