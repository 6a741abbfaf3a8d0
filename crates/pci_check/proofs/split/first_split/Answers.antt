use Rattle.std.proofs.lemmas.Result.{IfOk-weaker}
use Rattle.pci_check.proofs.Splitting.{split_first_in_io, split_first_in_memory}
use Rattle.pci_check.proofs.split.first_split.Goals as goal

pub returns-in-Some : goal.returns-in-Some
returns-in-Some g c = split_first_in_io c.args.outline.now c.in-Some.fault (rw c.in-Some.is at c.in_ok-fault.ensures)

pub returns : goal.returns
returns g c = IfOk-weaker c.split_in-2.result _ _
    (λ o answer. split_first_in_memory c.args.outline.now o (rw c.in_default.is at c.in_ok-fault.ensures) answer) c.split_in-2.ensures
