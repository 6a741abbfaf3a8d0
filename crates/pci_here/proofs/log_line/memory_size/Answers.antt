use Rattle.pci_here.proofs.LogForms.{memory_kind, no_kind}
use Rattle.pci_here.proofs.log_line.memory_size.Goals as goal

pub returns-in_err-flags-in-Some : goal.returns-in_err-flags-in-Some
returns-in_err-flags-in-Some c =
    rw c.from_residual.ensures (no_kind c.args.text.now (c.in-Some.digits, c.in-Some.words) c.in-Some.ensures.cases c.in_err-flags-in-Some.ensures.only)

pub returns-in_ok-flags-in-Some : goal.returns-in_ok-flags-in-Some
returns-in_ok-flags-in-Some c =
    memory_kind c.args.text.now (c.in-Some.digits, c.in-Some.words) c.in-Some.ensures.cases c.in_ok-flags-in-Some.flags
    c.in_ok-flags-in-Some.ensures.words c.in_ok-flags-in-Some.ensures.only c.plain_size.result c.plain_size.ensures
