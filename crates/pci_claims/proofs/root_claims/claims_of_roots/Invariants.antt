use Rattle.pci_base.specs.Space.{space_of}
use Rattle.pci_claims.specs.Values.{code_given_value, told_value}
use Rattle.pci_claims.proofs.RootClaims.{AreRootClaimsBelow}
use Rattle.pci_claims.proofs.root_claims.claims_of_roots.Given as goal

abbrev pub invariant-loop-bus : goal.invariant-loop-bus
invariant-loop-bus g l = AreRootClaimsBelow (told_value l.board.told) (code_given_value l.board.given) l.board.outline.now (space_of l.space) l.bus l.all.items
