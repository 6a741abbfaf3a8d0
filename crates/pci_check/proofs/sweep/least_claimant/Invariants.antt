use Rattle.pci_check.proofs.Sweeps.{IsBest}
use Rattle.pci_check.proofs.sweep.least_claimant.Given as goal

abbrev pub invariant-loop-i : goal.invariant-loop-i
invariant-loop-i l = IsBest l.i l.regions l.a l.after l.best
