use Rattle.pci_first_fit.proofs.Cursors.{AreRestarted}
use Rattle.pci_first_fit.proofs.placing.restart.Given as goal

abbrev pub invariant-loop-index : goal.invariant-loop-index
invariant-loop-index l = AreRestarted l.fn.cursors l.cursors l.index
