use Rattle.std.proofs.Common.{List, [], subst}
use Rattle.pci_base.specs.Space.{space_of}
use Rattle.pci_tree.specs.declared.region.Region.{Region}
use Rattle.pci_claims.specs.Claim.{Claimed}
use Rattle.pci_claims.specs.Values.{code_given_value, told_value}
use Rattle.pci_claims.specs.Taking.{OneHas, IsLeft, IsAnswered, AreMorePieces}
use Rattle.pci_claims.proofs.Unclaiming.{claimed_by_all, lawful_all}
use Rattle.pci_claims.proofs.taking.claimed_on.Goals as goal

pub returns-clause-lawful : goal.returns-clause-lawful
returns-clause-lawful g c = c.in_ok-add_pieces.ensures.lawful (lawful_all c.in_ok-pieces.ensures)

pub returns-clause-exact : goal.returns-clause-exact
returns-clause-exact g c s tree =
    let given = code_given_value c.args.board.now.given in
    let space = space_of c.args.space in
    let pieces = c.in_ok-pieces.pieces.items in
    claimed_by_all (told_value c.args.board.now.told) given s c.args.bus space c.in_ok-regions.regions.items (c.in_ok-regions.ensures s tree.records) pieces
    (subst (λ (l : List Region). AreMorePieces (OneHas (IsLeft given space) l) [] pieces) c.deref.ensures.value c.in_ok-pieces.ensures)
    c.in_ok-others.others.items (c.in_ok-others.ensures s tree) _
    (subst (λ (l : List Claimed). AreMorePieces (OneHas IsAnswered l) pieces c.add_pieces.new.out.items) c.deref-2.ensures.value c.in_ok-add_pieces.ensures)
