-- What an access to configuration space reads and writes of a board (PCI 3.0, 3.2.2.3.4 and 6.1).
use Rattle.std.specs.Prelude.{◌≡◌, ℕ, ◌==◌, if◌then◌else◌, List, [], ◌∷◌, map, set}
use Rattle.pci_spec.specs.Slot.{Slot}
use Rattle.pci_spec.specs.Number.{byte_at}
use Rattle.pci_number.specs.Board.{Nodes, NoMore, Node, Board, NodePlace, Here, Behind, Next, node_image, answers}

-- what is read where no node answers
abbrev pub NOTHING : ℕ
NOTHING = 0xff

-- the nodes behind a root; none where there is no such root
abbrev pub nodes_behind : Board → ℕ → Nodes
nodes_behind [] number = NoMore
nodes_behind (root ∷ roots) number =
    if root.number == number then root.nodes else nodes_behind roots number

-- the image of a node that answers
abbrev pub image_of : Board → ℕ × NodePlace → List ℕ
image_of board place = node_image (nodes_behind board place.0) place.1

-- the nodes with another byte at an offset of the node at a place
abbrev pub with_byte : Nodes → NodePlace → ℕ → ℕ → Nodes
with_byte NoMore place offset value = NoMore
with_byte (Node device function image behind others) Here offset value =
    Node device function (set image offset value) behind others
with_byte (Node device function image behind others) (Behind place) offset value =
    Node device function image (with_byte behind place offset value) others
with_byte (Node device function image behind others) (Next place) offset value =
    Node device function image behind (with_byte others place offset value)

-- the board with other nodes behind a root
abbrev pub with_nodes : Board → ℕ → Nodes → Board
with_nodes board number nodes =
    map (λ root. if root.number == number then record { number = number; nodes = nodes } else root)
    board

-- the board with another byte at an offset of a node that answers
abbrev pub with_byte_of : Board → ℕ × NodePlace → ℕ → ℕ → Board
with_byte_of board place offset value =
    with_nodes board place.0 (with_byte (nodes_behind board place.0) place.1 offset value)

-- What a read shows: the byte of the node that answers. Where several do, nothing is said.
pub record IsByteRead (board : Board) (access : Slot) (offset : ℕ) (value : ℕ) : Type 0 where
  pub nothing : answers board access ≡ [] → value ≡ NOTHING
  pub byte : (place : ℕ × NodePlace) → answers board access ≡ place ∷ []
      → value ≡ byte_at (image_of board place) offset

-- What a write of a byte leaves: the node that answers may have another byte there, and all else is
-- kept. Which byte it has then is for it to say: it may have bits that no write changes.
pub record IsByteWritten (before : Board) (access : Slot) (offset : ℕ) (after : Board) : Type 0 where
  pub nothing : answers before access ≡ [] → after ≡ before
  pub byte : (place : ℕ × NodePlace) → answers before access ≡ place ∷ []
      → (kept : ℕ) × (after ≡ with_byte_of before place offset kept)
