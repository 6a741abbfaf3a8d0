use Rattle.pci_faults.specs.Clashes.{IsFoundBelow}
use Rattle.pci_faults.proofs.pairs.meeting_from.Given as goal

abbrev pub invariant-loop-k : goal.invariant-loop-k
invariant-loop-k g l = IsFoundBelow l.among l.k l.claims l.i l.found
