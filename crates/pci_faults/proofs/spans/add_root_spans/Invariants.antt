use Rattle.pci_base.specs.Space.{space_of}
use Rattle.pci_tree.specs.Roots.{buses_of}
use Rattle.pci_faults.specs.Spans.{AreSpansAdded}
use Rattle.pci_faults.proofs.Spanning.{RootBelow}
use Rattle.pci_faults.proofs.spans.add_root_spans.Given as goal

abbrev pub invariant-loop-bus : goal.invariant-loop-bus
invariant-loop-bus g l = AreSpansAdded (RootBelow (buses_of l.roots) l.bus) l.ranges (space_of l.space) l.fn.out.items l.out.items
