use Rattle.pci_base.specs.Space.{space_of}
use Rattle.pci_faults.proofs.Spanning.{AreSpansBelow}
use Rattle.pci_faults.proofs.spans.add_told_spans.Given as goal

abbrev pub invariant-loop-i : goal.invariant-loop-i
invariant-loop-i g l = AreSpansBelow l.bus l.ranges (space_of l.space) l.i l.fn.out.items l.out.items
