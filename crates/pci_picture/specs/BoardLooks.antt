-- How the boxes of a board that was read look.
use Rattle.pci_picture.specs.FaultLines.{faults_read}
use Rattle.pci_picture.specs.Looks.{Look, look_by}
use Rattle.pci_picture.specs.Marks.{has_naming}
use Rattle.pci_picture.specs.Roots.{listed_functions}
use Rattle.pci_picture.specs.Said.{said_by}
use Rattle.pci_picture.specs.declared.board.Board.{Board}

-- by its functions and its faults
abbrev pub look_read : {A : Type 0} → Board A → Look
look_read board =
    look_by (has_naming board.faults.faults.items board.faults.namings.items) (listed_functions board.functions.items) (said_by board.faults)
    (faults_read board.faults)
