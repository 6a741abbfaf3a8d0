use Rattle.std.proofs.Common.{◌≡◌, ◌++◌, take}
use Rattle.std.specs.List.{flat_map, slice_get}
use Rattle.pci_picture.specs.Lines.{words_in_line}
use Rattle.pci_picture.specs.Roots.{listed_functions}
use Rattle.pci_picture.specs.Said.{lines_of_fault, said_lines}
use Rattle.pci_picture.specs.Titles.{buses_if_listed, function_of_region, said_of_window}
use Rattle.pci_picture.proofs.board.Board.put_about.Given as goal

abbrev pub invariant-loop-naming : goal.invariant-loop-naming
invariant-loop-naming g l =
    let words = words_in_line l.region.line.now in
    l.words.bytes.items
    ≡ (l.fn.words.bytes.items ++ said_of_window words (buses_if_listed (function_of_region (listed_functions l.self.functions.items) words)))
    ++ flat_map (λ naming. said_lines (lines_of_fault l.self.faults (slice_get l.self.faults.faults.items naming.fault))) (take l.naming-index l.naming-items)
