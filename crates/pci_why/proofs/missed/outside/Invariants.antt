use Rattle.std.proofs.Common.{take}
use Rattle.pci_why.specs.Missed.{IsOutsideBefore}
use Rattle.pci_why.proofs.missed.outside.Given as goal

abbrev pub invariant-loop-next : goal.invariant-loop-next
invariant-loop-next g l = IsOutsideBefore l.range l.ranges (take l.next-index l.ranges) l.next-index l.from l.out.items
