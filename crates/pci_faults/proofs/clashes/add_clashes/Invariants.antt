use Rattle.pci_spec.specs.Order.{Clashes}
use Rattle.pci_faults.specs.Lines.{AreLinesAdded, IsAtBusesBelow}
use Rattle.pci_faults.proofs.clashes.add_clashes.Given as goal

abbrev pub invariant-loop-bus : goal.invariant-loop-bus
invariant-loop-bus g l = AreLinesAdded (IsAtBusesBelow Clashes l.bus) l.board.outline.now l.fn.out.items l.out.items
