use Rattle.std.proofs.Common.{take}
use Rattle.pci_faults.specs.Before.{AreSlotsOf, IsOfNoFunction}
use Rattle.pci_faults.proofs.before.slots_not_listed.Given as goal

abbrev pub invariant-loop-range : goal.invariant-loop-range
invariant-loop-range g l = AreSlotsOf (IsOfNoFunction l.dump) (take l.range-index l.ranges) l.slots.items
