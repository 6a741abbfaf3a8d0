use Rattle.pci_kept.proofs.Reaching.{AreReachableBelow}
use Rattle.pci_kept.proofs.leads.reachable_indexes.Given as goal

abbrev pub invariant-loop-index : goal.invariant-loop-index
invariant-loop-index g l = AreReachableBelow l.ranges l.index l.indexes.items
