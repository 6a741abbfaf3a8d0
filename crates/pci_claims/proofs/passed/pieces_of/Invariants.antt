use Rattle.std.proofs.Common.{take}
use Rattle.pci_base.specs.Space.{space_of}
use Rattle.pci_claims.specs.Passed.{ArePiecesOf}
use Rattle.pci_claims.proofs.passed.pieces_of.Given as goal

abbrev pub invariant-loop-entry : goal.invariant-loop-entry
invariant-loop-entry g l = ArePiecesOf l.part (take l.entry-index l.entries) l.slot (space_of l.space) l.out.items
