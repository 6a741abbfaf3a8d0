use Rattle.std.proofs.Common.{subst}
use Rattle.pci_tree.specs.Admission.{IsAdmitted}
use Rattle.pciplan_tasks.proofs.ByWords.{admitted_left}
use Rattle.pciplan_tasks.proofs.settling_by_words.settle_taken.Goals as goal

pub returns-in-Ok : goal.returns-in-Ok
returns-in-Ok g c =
    let q = c.args.asked.now in
    admitted_left q.words q.request.now q.printed q.fixed.now q.left.now c.args.texts.now.dump.now c.args.texts.now.probe.now c.args.taken.dump c.args.taken.probe c.in-Ok.admitted c.settle_without.result
    (subst IsAdmitted c.admitted.view_is c.admitted.invariant.0) c.in-Ok.ensures.0 c.in-Ok.ensures.1 c.in-Ok.ensures.2 c.settle_without.ensures
