use Rattle.pci_here.proofs.log_line.plain_size.Goals as goal

pub returns-in_err-size : goal.returns-in_err-size
returns-in_err-size c = rw c.from_residual.ensures (λ told is. c.in_err-size.ensures told.size is.1)
