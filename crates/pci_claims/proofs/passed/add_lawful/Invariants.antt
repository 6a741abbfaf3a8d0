use Rattle.std.proofs.Common.{take}
use Rattle.pci_claims.specs.Gathered.{AreLawfulBehind}
use Rattle.pci_claims.proofs.passed.add_lawful.Given as goal

abbrev pub invariant-loop-range : goal.invariant-loop-range
invariant-loop-range g l = AreLawfulBehind l.fn.out.items (take l.range-index l.ranges) l.out.items
