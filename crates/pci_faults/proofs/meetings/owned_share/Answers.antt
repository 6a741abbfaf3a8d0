use Rattle.std.proofs.Common.{◌∙◌, ap}
use Rattle.pci_claims.specs.Claim.{Claimed}
use Rattle.pci_faults.proofs.Owning.{claim_read, share_read, none_read}
use Rattle.pci_faults.proofs.meetings.owned_share.Goals as goal

pub returns-in-None : goal.returns-in-None
returns-in-None g c =
    none_read c.args.claims.now c.args.i c.pieces.result.now c.args.owners.now
    (c.pieces.ensures.value ∙ ap (λ (x : Claimed). x.pieces) (claim_read c.args.claims.now c.args.i c.index-claims-i.result c.requires c.index-claims-i.is)) c.in-None.ensures

pub returns-in-Some : goal.returns-in-Some
returns-in-Some g c =
    share_read c.args.claims.now c.args.i c.pieces.result.now c.args.owners.now c.in-Some.found
    (c.pieces.ensures.value ∙ ap (λ (x : Claimed). x.pieces) (claim_read c.args.claims.now c.args.i c.index-claims-i.result c.requires c.index-claims-i.is)) c.in-Some.ensures
