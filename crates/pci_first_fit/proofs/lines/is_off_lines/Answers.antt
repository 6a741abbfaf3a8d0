use Rattle.std.proofs.Common.{◌∙◌}
use Rattle.pci_base.specs.Ranges.{decoded_range_of}
use Rattle.pci_base.specs.Space.{space_of}
use Rattle.pci_first_fit.specs.Lines.{line_keeps_off}
use Rattle.pci_first_fit.proofs.Rows.{off_lines, keeps_within}
use Rattle.pci_first_fit.proofs.lines.is_off_lines.Goals as goal

pub returns : goal.returns
returns c q are level =
    c.are_off.ensures
    ∙ off_lines q c.args.slot (space_of c.args.space) (decoded_range_of c.args.range) c.args.level c.args.lines.now c.rows_between.result.now are level
    (c.rows_between.ensures (line_keeps_off c.args.level c.args.slot (space_of c.args.space) (decoded_range_of c.args.range)) (keeps_within c.args.level c.args.slot (space_of c.args.space) (decoded_range_of c.args.range)))
