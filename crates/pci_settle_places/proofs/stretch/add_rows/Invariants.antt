use Rattle.std.proofs.Common.{◌≡◌, ◌++◌, map, take}
use Rattle.std.specs.List.{filter}
use Rattle.pci_first_fit.specs.Lines.{line_code_range}
use Rattle.pci_settle_places.specs.Stretches.{is_row_behind}
use Rattle.pci_settle_places.proofs.stretch.add_rows.Given as goal

abbrev pub invariant-loop-row : goal.invariant-loop-row
invariant-loop-row g l = l.out.items ≡ l.initial.out.items ++ map line_code_range (filter (is_row_behind l.sought) (take l.row-index l.rows))
