use Rattle.std.proofs.Common.{take}
use Rattle.pci_tree.specs.Roots.{buses_of}
use Rattle.pci_faults.specs.Before.{AreSlotsOf, IsOfNoBus}
use Rattle.pci_faults.proofs.before.slots_of_no_bus.Given as goal

abbrev pub invariant-loop-range : goal.invariant-loop-range
invariant-loop-range g l = AreSlotsOf (IsOfNoBus (buses_of l.roots) l.dump) (take l.range-index l.ranges) l.slots.items
