use Rattle.pci_spec.specs.Order.{Reach}
use Rattle.pci_faults.specs.Lines.{AreLinesAdded, IsAtBusesBelow}
use Rattle.pci_faults.proofs.unreached.add_unreached.Given as goal

abbrev pub invariant-loop-bus : goal.invariant-loop-bus
invariant-loop-bus g l = AreLinesAdded (IsAtBusesBelow Reach l.bus) l.board.outline.now l.fn.out.items l.out.items
