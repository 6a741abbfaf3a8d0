use Rattle.pci_dump.proofs.row.begin_zeros.Goals as goal

pub returns : goal.returns
returns c = λ e. c.difference.ensures.same (c.are_zero.ensures.yes e)
