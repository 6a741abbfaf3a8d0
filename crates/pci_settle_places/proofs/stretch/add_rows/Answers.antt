use Rattle.std.proofs.Common.{◌++◌, map, ap, ◌∙◌}
use Rattle.std.specs.List.{filter}
use Rattle.std.proofs.lemmas.List.{take_all}
use Rattle.pci_first_fit.specs.Lines.{line_code_range}
use Rattle.pci_settle_places.specs.Stretches.{is_row_behind}
use Rattle.pci_settle_places.proofs.stretch.add_rows.Goals as goal

pub returns : goal.returns
returns g c =
    c.loop-row.invariant
    ∙ ap (λ ls. c.args.out.now.items ++ map line_code_range (filter (is_row_behind c.args.sought.now) ls)) (take_all c.loop-row.row-index c.args.rows.now c.loop-row-test.false)
