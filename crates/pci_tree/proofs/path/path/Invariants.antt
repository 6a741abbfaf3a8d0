use Rattle.pci_tree.specs.Roots.{buses_of}
use Rattle.pci_tree.proofs.Ways.{GoesUp}
use Rattle.pci_tree.proofs.path.path.Given as goal

abbrev pub invariant-loop-up : goal.invariant-loop-up
invariant-loop-up l = GoesUp l.records (buses_of l.roots) l.at l.up.items l.bus

abbrev pub decreases-loop-up : goal.decreases-loop-up
decreases-loop-up l = l.at
