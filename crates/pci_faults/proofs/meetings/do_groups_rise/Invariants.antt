use Rattle.pci_faults.proofs.Owning.{AreRisen}
use Rattle.pci_faults.proofs.meetings.do_groups_rise.Given as goal

abbrev pub invariant-loop-k : goal.invariant-loop-k
invariant-loop-k g l = AreRisen l.among l.claims l.k l.last
