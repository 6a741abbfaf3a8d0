use Rattle.pci_base.specs.Space.{space_of}
use Rattle.pci_check.proofs.Splitting.{AreRootsListedBelow}
use Rattle.pci_check.proofs.split.of_roots.Given as goal

abbrev pub invariant-loop-bus : goal.invariant-loop-bus
invariant-loop-bus g l = AreRootsListedBelow l.outline (space_of l.space) l.bus l.all.items
