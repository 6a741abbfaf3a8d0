use Rattle.std.proofs.Common.{sym, ◌∙◌}
use Rattle.pci_grow.proofs.Rows.{higher_rows}
use Rattle.pci_grow.proofs.beside.behind.Goals as goal

pub returns-else-row_of-clause-none : goal.returns-else-row_of-clause-none
returns-else-row_of-clause-none c =
    higher_rows _ c.requires.order _ c.requires.index _ (λ same. c.if-row_of.false (c.row_of.ensures ∙ same ∙ sym c.row_of-2.ensures))
