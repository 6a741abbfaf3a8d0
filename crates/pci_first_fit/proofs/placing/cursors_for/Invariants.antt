use Rattle.pci_first_fit.proofs.Cursors.{AreFirst}
use Rattle.pci_first_fit.proofs.placing.cursors_for.Given as goal

abbrev pub invariant-loop : goal.invariant-loop
invariant-loop g l = AreFirst l.cursors.items l.counter
