use Rattle.std.proofs.Common.{take}
use Rattle.pci_base.specs.Space.{space_of}
use Rattle.pci_claims.specs.Sent.{ArePartsOf}
use Rattle.pci_claims.proofs.sent.parts.Given as goal

abbrev pub invariant-loop-range : goal.invariant-loop-range
invariant-loop-range g l = ArePartsOf (take l.range-index l.ranges) (space_of l.space) l.root l.out.items
