use Rattle.pci_grow.proofs.KeptInOrder.{AreKeptOf}
use Rattle.pci_grow.proofs.in_order.in_order.Given as goal

abbrev pub invariant-loop-range : goal.invariant-loop-range
invariant-loop-range g l = AreKeptOf l.range-items l.range-index l.kept.items l.end
