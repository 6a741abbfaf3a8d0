use Rattle.std.proofs.lemmas.Result.{IfOk-weaker}
use Rattle.pci_check.proofs.Judges.{answer_over_roots}
use Rattle.pci_check.proofs.judge.judge.Goals as goal

pub returns-clause-judgement : goal.returns-clause-judgement
returns-clause-judgement g c = IfOk-weaker c.first_split.result _ _
    (λ o answer. answer_over_roots c.args.outline.now c.in_ok-reached.ensures.nested (rw c.in_default.is at c.in_ok-fault.ensures) o answer) c.first_split.ensures
