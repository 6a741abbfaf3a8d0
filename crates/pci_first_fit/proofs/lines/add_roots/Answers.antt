use Rattle.std.proofs.Common.{◌++◌, map, ap, ◌∙◌}
use Rattle.std.specs.List.{filter}
use Rattle.std.proofs.lemmas.List.{take_all}
use Rattle.pci_base.specs.Space.{space_of}
use Rattle.pci_first_fit.specs.Lines.{line_code_range, is_root_line}
use Rattle.pci_first_fit.proofs.Rows.{root_line_within}
use Rattle.pci_first_fit.proofs.lines.add_roots.Goals as goal

pub returns : goal.returns
returns g c =
    c.loop-line.invariant
    ∙ ap (λ ls. c.args.out.now.items ++ map line_code_range (filter (is_root_line c.args.first c.args.last (space_of c.args.space)) ls)) (take_all c.loop-line.line-index c.rows_between-line-items.result.now c.loop-line-test.false)
    ∙ ap (λ ls. c.args.out.now.items ++ map line_code_range ls) (c.rows_between-line-items.ensures (is_root_line c.args.first c.args.last (space_of c.args.space)) (root_line_within c.args.first c.args.last (space_of c.args.space)))
