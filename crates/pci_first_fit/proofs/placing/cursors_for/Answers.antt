use Rattle.pci_first_fit.proofs.Cursors.{first_more}
use Rattle.pci_first_fit.proofs.placing.cursors_for.Goals as goal

pub loop-preserved : goal.loop-preserved
loop-preserved g c = first_more _ _ _ _ c.loop.invariant c.first.ensures c.in_ok-push.ensures.items
