use Rattle.std.proofs.Common.{take}
use Rattle.pci_claims.specs.Taking.{OneHas, IsAnswered, AreMorePieces}
use Rattle.pci_claims.proofs.taking.add_pieces.Given as goal

abbrev pub invariant-loop-claim : goal.invariant-loop-claim
invariant-loop-claim g l = AreMorePieces (OneHas IsAnswered (take l.claim-index l.claims)) l.fn.out.items l.out.items
