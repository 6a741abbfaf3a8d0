use Rattle.pci_first_fit.proofs.Rows.{rows_within, no_rows}
use Rattle.pci_grow.proofs.RowSlices.{one_level, slice_ranges, none_ranges}
use Rattle.pci_grow.proofs.among.on_level.Goals as goal

pub returns-then-end-first-clause-same : goal.returns-then-end-first-clause-same
returns-then-end-first-clause-same c = λ p within.
    no_rows c.args.lines.now c.args.level c.args.level c.first_from-first.result c.first_from-end.result c.first_from-first.ensures.bound c.first_from-first.ensures.before c.first_from-end.ensures.after p (one_level p c.args.level within) c.if-end-first.true

pub returns-clause-same : goal.returns-clause-same
returns-clause-same c = λ p within.
    rows_within c.args.lines.now c.args.level c.args.level c.first_from-first.result c.first_from-end.result c.first_from-first.ensures.bound c.first_from-first.ensures.before c.first_from-end.ensures.after p (one_level p c.args.level within) c.if-end-first.false

pub returns-then-end-first-clause-ranges : goal.returns-then-end-first-clause-ranges
returns-then-end-first-clause-ranges c = λ told are. none_ranges told

pub returns-clause-ranges : goal.returns-clause-ranges
returns-clause-ranges c = λ told are. slice_ranges told c.args.lines.now c.first_from-first.result c.first_from-end.result c.if-end-first.false are
