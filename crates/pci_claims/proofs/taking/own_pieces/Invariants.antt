use Rattle.std.proofs.Common.{[], take}
use Rattle.pci_base.specs.Space.{space_of}
use Rattle.pci_claims.specs.Values.{code_given_value}
use Rattle.pci_claims.specs.Taking.{OneHas, IsLeft, AreMorePieces}
use Rattle.pci_claims.proofs.taking.own_pieces.Given as goal

abbrev pub invariant-loop-region : goal.invariant-loop-region
invariant-loop-region g l = AreMorePieces (OneHas (IsLeft (code_given_value l.given) (space_of l.space)) (take l.region-index l.regions)) [] l.out.items
