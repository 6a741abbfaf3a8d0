use Rattle.std.proofs.Common.{◌≡◌, List, ◌++◌, ap, subst, sym, ◌∙◌, map}
use Rattle.std.proofs.lemmas.Bool.{eqb-true}
use Rattle.std.proofs.lemmas.List.{nil_from_length}
use Rattle.pci_spec.specs.Decoded.{HasRecords}
use Rattle.pci_spec.specs.Decoded as decoded
use Rattle.pci_base.specs.Space.{space_of}
use Rattle.pci_claims.specs.Values.{code_given_value, legacy_value}
use Rattle.pci_claims.specs.Claim.{Claimed}
use Rattle.pci_claims.specs.BusClaims.{AreClaimsOfParts}
use Rattle.pci_claims.proofs.PartsOnBus.{parts_made, no_parts}
use Rattle.pci_claims.proofs.bus_claims.part_claims.Goals as goal

pub returns-then-is_empty-2 : goal.returns-then-is_empty-2
returns-then-is_empty-2 g c s tree addresses =
    let given = code_given_value c.args.board.now.given in
    let space = space_of c.args.arriving.now.space in
    let reach = c.args.arriving.now.reach.now in
    subst (λ (l : List Claimed). AreClaimsOfParts given s c.args.bus space reach l) (sym c.new-claims.ensures.items)
    (no_parts given s c.args.bus space reach (ap (map legacy_value) (nil_from_length c.args.board.now.given.legacy.now (eqb-true _ 0 (sym c.is_empty.ensures ∙ c.if-is_empty.true))))
    (ap (map legacy_value) (nil_from_length c.args.board.now.given.palette.now (eqb-true _ 0 (sym c.is_empty-then-is_empty.ensures ∙ c.if-is_empty-2.true)))))

pub returns : goal.returns
returns g c s tree addresses =
    let board = c.args.board.now in
    let given = code_given_value board.given in
    let space = space_of c.args.arriving.now.space in
    let reach = c.args.arriving.now.reach.now in
    let legacy = c.in_ok-add_part_claims.ensures in
    let palette = c.in_ok-add_part_claims-2.ensures in
    let all : c.add_part_claims-2.new.claims.items ≡ legacy.more ++ palette.more =
    palette.appended ∙ ap (λ (l : List Claimed). l ++ palette.more) (legacy.appended ∙ ap (λ (l : List Claimed). l ++ legacy.more) c.new-claims.ensures.items) in
    subst (λ (l : List Claimed). AreClaimsOfParts given s c.args.bus space reach l) (sym all)
    (parts_made given board.outline.now s tree c.args.bus space board.bridges.now c.deref.result.now c.requires.bridges (c.deref.ensures.value ∙ c.in_ok-slots.ensures)
    c.records.result.now (subst (λ (rs : List decoded.Record). HasRecords s rs) (sym c.records.ensures.value) tree.records) reach addresses
    legacy.more palette.more legacy.made palette.made)
