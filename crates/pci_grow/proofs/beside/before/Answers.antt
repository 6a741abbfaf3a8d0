use Rattle.std.proofs.Common.{sym, ◌∙◌, arith}
use Rattle.pci_grow.proofs.Rows.{lower_rows}
use Rattle.pci_grow.proofs.beside.before.Goals as goal

pub returns-else-row_of-clause-none : goal.returns-else-row_of-clause-none
returns-else-row_of-clause-none c =
    let differ = c.if-index-eq0.false in
    lower_rows _ c.requires.order _ c.requires.index _ (omega (arith, differ)) (λ same. c.if-row_of.false (c.row_of.ensures ∙ same ∙ sym c.row_of-2.ensures))
