use Rattle.pci_here.proofs.LogForms.{no_close, no_number, no_open, no_size, size_there}
use Rattle.pci_here.proofs.log_line.size_of.Goals as goal

pub returns-in_err-front : goal.returns-in_err-front
returns-in_err-front c = rw c.from_residual.ensures (no_open c.args.text.now c.in_err-front.ensures.cases)

pub returns-in_err-inside : goal.returns-in_err-inside
returns-in_err-inside c =
    rw c.from_residual-in_err-inside.ensures (no_close c.args.text.now (c.in_ok-front.front, c.in_ok-front.rest) c.in_ok-front.ensures.cases
    c.in_err-inside.ensures.cases)

pub returns-in_err-bar : goal.returns-in_err-bar
returns-in_err-bar c =
    rw c.from_residual-in_err-bar.ensures (no_number c.args.text.now (c.in_ok-front.front, c.in_ok-front.rest) c.in_ok-front.ensures.cases c.in_err-bar.ensures)

pub returns-in_err-told : goal.returns-in_err-told
returns-in_err-told c =
    rw c.from_residual-in_err-told.ensures (no_size c.args.text.now (c.in_ok-front.front, c.in_ok-front.rest) (c.in_ok-inside.inside, c.in_ok-inside.field-0-1)
    c.in_ok-front.ensures.cases c.in_ok-inside.ensures.cases c.in_err-told.ensures)

pub returns : goal.returns
returns c =
    size_there c.args.text.now (c.in_ok-front.front, c.in_ok-front.rest) (c.in_ok-inside.inside, c.in_ok-inside.field-0-1) c.in_ok-bar.bar c.in_ok-told.told
    c.in_ok-front.ensures.cases c.in_ok-inside.ensures.cases c.in_ok-bar.ensures c.in_ok-told.ensures
