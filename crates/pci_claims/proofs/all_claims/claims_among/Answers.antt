use Rattle.std.proofs.Common.{List, subst, sym, ◌∙◌}
use Rattle.std.specs.List.Sorted.{IsPermutation}
use Rattle.std.proofs.lemmas.Bool.{eqb-true}
use Rattle.pci_base.specs.declared.range.Range.{Range}
use Rattle.pci_base.specs.Space.{space_of}
use Rattle.pci_claims.specs.Values.{code_given_value, told_value}
use Rattle.pci_claims.specs.Claim.{Claimed}
use Rattle.pci_claims.specs.AllClaims.{AreRangeClaims}
use Rattle.pci_claims.proofs.AllClaiming.{claims_without, sorted_claims}
use Rattle.pci_claims.proofs.all_claims.claims_among.Goals as goal

pub returns-then-is_empty : goal.returns-then-is_empty
returns-then-is_empty g c s tree =
    let board = c.args.board.now in
    claims_without (told_value board.told) board.outline.now board.on.now c.requires.each_on s tree c.requires.lawful (code_given_value board.given) c.args.bus (space_of c.args.space)
    c.ranges_of-stretch.result c.ranges_of-stretch.ensures c.in_ok-claims.claims.items (c.in_ok-claims.ensures s tree)
    (eqb-true c.ranges_of-stretch.result.first c.ranges_of-stretch.result.end (sym c.is_empty.ensures ∙ c.if-is_empty.true))

pub returns : goal.returns
returns g c s tree =
    let board = c.args.board.now in
    let added = c.in_ok-add_range_claims.ensures in
    sorted_claims (told_value board.told) board.outline.now board.on.now c.requires.each_on s tree c.requires.lawful (code_given_value board.given) c.args.bus (space_of c.args.space)
    c.ranges_of-stretch.result c.ranges_of-stretch.ensures c.in_ok-reach.reach.items c.in_ok-claims.claims.items added.more c.sort.new.claims.items (c.in_ok-claims.ensures s tree)
    (subst (λ (l : List Range). AreRangeClaims board.told.ranges.now board.on.now c.ranges_of-stretch.result.first c.ranges_of-stretch.result.end (space_of c.args.space) l added.more) c.deref.ensures.value added.made)
    (λ d has. c.in_ok-reach.ensures.exact s tree.records) (c.in_ok-reach.ensures.nested s tree.records)
    (subst (λ (l : List Claimed). IsPermutation l c.sort.new.claims.items) added.appended c.in_ok-sort.ensures.permutation) c.in_ok-sort.ensures.sorted
