use Rattle.std.proofs.Common.{take}
use Rattle.pci_base.specs.Space.{space_of}
use Rattle.pci_claims.specs.Passed.{AreTakenPieces}
use Rattle.pci_claims.proofs.passed.taken_of.Given as goal

abbrev pub invariant-loop-entry : goal.invariant-loop-entry
invariant-loop-entry g l = AreTakenPieces (take l.entry-index l.unclaimed) l.slot (space_of l.space) l.out.items
