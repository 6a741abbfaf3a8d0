use Rattle.std.proofs.Common.{List, ◌++◌, ap, subst, sym, ◌∙◌}
use Rattle.pci_spec.specs.Decoded.{HasRecords}
use Rattle.pci_spec.specs.Decoded as decoded
use Rattle.pci_base.specs.Space.{space_of}
use Rattle.pci_claims.specs.Values.{code_given_value}
use Rattle.pci_claims.specs.Claim.{Claimed}
use Rattle.pci_claims.specs.BusClaims.{AreRegisterClaimsAmong}
use Rattle.pci_claims.proofs.BusClaiming.{claims_made}
use Rattle.pci_claims.proofs.bus_claims.claims_arriving.Goals as goal

pub returns-clause-claims : goal.returns-clause-claims
returns-clause-claims g c s tree bus here addresses =
    let board = c.args.board.now in
    let given = code_given_value board.given in
    let space = space_of c.args.arriving.now.space in
    let reach = c.args.arriving.now.reach.now in
    let own = c.in_ok-claims.claims.items in
    let legacy = c.in_ok-add_part_claims.ensures in
    let palette = c.in_ok-add_part_claims-2.ensures in
    subst (λ (l : List Claimed). AreRegisterClaimsAmong given s bus space reach l) (sym (palette.appended ∙ ap (λ (l : List Claimed). l ++ palette.more) legacy.appended))
    (claims_made given board.outline.now s tree bus space c.args.here.now.regions.now here.regions board.bridges.now c.args.here.now.bridges.now c.requires.bridges here.bridges
    c.records.result.now (subst (λ (rs : List decoded.Record). HasRecords s rs) (sym c.records.ensures.value) tree.records) c.records.ensures.rising reach addresses
    own legacy.more palette.more c.in_ok-claims.ensures legacy.made palette.made)
