-- A board with one root, bus 00, and on it one bridge, 00:01.0, with nothing behind it.
use Rattle.std.specs.Prelude.{ℕ, Option, Some, None, List, [], ◌∷◌, map, reverse}
use Rattle.pci_spec.specs.Machine.{Write}
use Rattle.pci_number.specs.Board.{NoMore, Node, Board}
use Rattle.pci_number.specs.Stops.{number_write}
use Rattle.pci_number.specs.declared.stop.NotTaken.{NotTaken}

abbrev pub board_of : List ℕ → Board
board_of image = record { number = 0; nodes = Node 1 0 image NoMore NoMore } ∷ []

-- the boards that stood, by the images that the bridge had: the last one first
abbrev pub boards_of : List (List ℕ) → List Board
boards_of images = map board_of (reverse images)

-- the write that is kept
abbrev pub write_not_taken : Option NotTaken → Option Write
write_not_taken None = None
write_not_taken (Some told) = Some (number_write told.slot told.offset told.number)
