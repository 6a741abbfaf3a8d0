use Rattle.pci_here.proofs.LogForms.{no_function, nothing_of_it}
use Rattle.pci_here.proofs.log_line.log_line_of.Goals as goal

pub returns-in_err-told-in-Some : goal.returns-in_err-told-in-Some
returns-in_err-told-in-Some c =
    rw c.from_residual.ensures (nothing_of_it c.args.line.now c.in-Some.said.text.now c.in-Some.said.place c.in-Some.ensures.only
    c.in_err-told-in-Some.ensures)

pub returns-in-None : goal.returns-in-None
returns-in-None c = no_function c.args.line.now c.in-None.ensures.said
