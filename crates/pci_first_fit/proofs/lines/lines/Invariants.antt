use Rattle.std.proofs.Common.{◌≡◌, map, take}
use Rattle.pci_tree.specs.Roots.{buses_of}
use Rattle.pci_first_fit.specs.Lines.{row_of, rows_from}
use Rattle.pci_first_fit.proofs.lines.lines.Given as goal

abbrev pub invariant-loop-index : goal.invariant-loop-index
invariant-loop-index g l = map row_of l.lines.items ≡ rows_from (buses_of l.roots) 0 (take l.index l.range-items)
