use Rattle.pci_first_fit.proofs.Rows.{rows_within, no_rows}
use Rattle.pci_first_fit.proofs.lines.rows_between.Goals as goal

pub returns-then-end-first : goal.returns-then-end-first
returns-then-end-first c p within =
    no_rows c.args.lines.now c.args.low c.args.high c.first_from-first.result c.first_from-end.result c.first_from-first.ensures.bound c.first_from-first.ensures.before c.first_from-end.ensures.after p within c.if-end-first.true

pub returns : goal.returns
returns c p within =
    rows_within c.args.lines.now c.args.low c.args.high c.first_from-first.result c.first_from-end.result c.first_from-first.ensures.bound c.first_from-first.ensures.before c.first_from-end.ensures.after p within c.if-end-first.false
