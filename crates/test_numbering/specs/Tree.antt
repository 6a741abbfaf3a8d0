-- Boards as trees in memory, and what an access reads and writes of them: the first node that
-- answers does.
use Rattle.std.specs.Prelude.{◌≡◌, ℕ, nat_lt, Bool, true, false, ◌&&◌, Option, Some, None, List, [], ◌∷◌}
use Rattle.std.specs.List.{list_all}
use Rattle.pci_spec.specs.Number.{byte_at}
use Rattle.pci_number.specs.Board.{Nodes, NoMore, Node, Board, NodePlace, node_image}
use Rattle.pci_number.specs.Access.{image_of, with_byte, with_byte_of}
use Rattle.test_numbering.specs.declared.bus.Bus.{Bus}
use Rattle.test_numbering.specs.declared.bus.Bus.TheVariants.{Empty, Holds'}
use Rattle.test_numbering.specs.declared.roots.Roots.{Roots}
use Rattle.test_numbering.specs.declared.roots.Roots.TheVariants.{NoRoots, First'}

-- The nodes on a bus. A pattern has a box in two parts: where it is, and what it holds.
abbrev pub nodes_of : Bus → Nodes
nodes_of Empty = NoMore
nodes_of (Holds' function p behind q others) =
    Node function.device function.function function.image (nodes_of behind)
    (nodes_of others)

abbrev pub board_of_roots : Roots → Board
board_of_roots NoRoots = []
board_of_roots (First' number bus p rest) =
    record { number = number; nodes = nodes_of bus } ∷ board_of_roots rest

-- whether all roots have numbers above this one
abbrev pub all_above : ℕ → Board → Bool
all_above number board = list_all (λ root. nat_lt number root.number) board

-- whether the numbers of the roots rise
abbrev pub roots_rise : Board → Bool
roots_rise [] = true
roots_rise (root ∷ roots) = all_above root.number roots && roots_rise roots

-- ---- the first of the nodes that answer

-- its byte
abbrev pub first_byte : Nodes → List NodePlace → ℕ → Option ℕ
first_byte nodes [] offset = None
first_byte nodes (place ∷ places) offset = Some (byte_at (node_image nodes place) offset)

-- It has a byte there, which may be the one that it had; where there is none, nothing changes.
abbrev pub IsPutFirst : Nodes → List NodePlace → ℕ → Bool → Nodes → Type 0
IsPutFirst nodes [] offset done after = (done ≡ false) × (after ≡ nodes)
IsPutFirst nodes (place ∷ places) offset done after =
    (done ≡ true) × (kept : ℕ) × (after ≡ with_byte nodes place offset kept)

-- the same of a board
abbrev pub first_byte_of : Board → List (ℕ × NodePlace) → ℕ → Option ℕ
first_byte_of board [] offset = None
first_byte_of board (place ∷ places) offset = Some (byte_at (image_of board place) offset)

abbrev pub IsPutFirstOf : Board → List (ℕ × NodePlace) → ℕ → Board → Type 0
IsPutFirstOf board [] offset after = after ≡ board
IsPutFirstOf board (place ∷ places) offset after =
    (kept : ℕ) × (after ≡ with_byte_of board place offset kept)
