-- What is kept of the writes to a board in memory.
use Rattle.std.specs.Prelude.{Option, Some, None, List, [], ◌∷◌, map, reverse}
use Rattle.pci_spec.specs.Machine.{Write}
use Rattle.pci_number.specs.Board.{Board}
use Rattle.pci_number.specs.Stops.{number_write}
use Rattle.test_numbering.specs.declared.tree.Stood.{Stood}
use Rattle.test_numbering.specs.Tree.{board_of_roots}

-- the boards that stood, the last one first
abbrev pub boards_recorded : List Stood → List Board
boards_recorded items = map (λ s. board_of_roots s.roots) (reverse items)

-- the first write of a list
abbrev pub first_write : List Stood → Option Write
first_write [] = None
first_write (s ∷ more) = Some (number_write s.written.slot s.written.offset s.written.number)

abbrev pub last_write_of : List Stood → Option Write
last_write_of items = first_write (reverse items)
