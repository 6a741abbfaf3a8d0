use Rattle.pci_kept.specs.LineRows.{is_kept_line}
use Rattle.pci_kept.proofs.LineRowing.{rows_moved}
use Rattle.pci_kept.proofs.off.line_rows.Goals as goal

pub returns-clause-rows : goal.returns-clause-rows
returns-clause-rows g c = λ q s same lines.
    rows_moved q (is_kept_line q s c.args.all) c.add_rows.new.rows.items c.sort_rows.new.rows.items c.sort_rows.ensures.permutation (c.in_ok-add_rows.ensures q s same lines c.new-rows.ensures.items)
