use Rattle.std.proofs.Common.{List, subst, sym}
use Rattle.pci_base.specs.declared.range.Range.{Range}
use Rattle.pci_base.specs.Space.{space_of}
use Rattle.pci_tree.specs.Ranges.{IsCanonical}
use Rattle.pci_tree.specs.Reaches.{IsWhole}
use Rattle.pci_claims.specs.Values.{code_given_value, told_value}
use Rattle.pci_claims.proofs.Unclaiming.{others_on}
use Rattle.pci_claims.proofs.taking.other_claims.Goals as goal

pub part_claims-requires-clause-canonical : goal.part_claims-requires-clause-canonical
part_claims-requires-clause-canonical g c = subst (λ (xs : List Range). IsCanonical xs) (sym c.deref.ensures.value) c.in_ok-whole.ensures.canonical

pub add_range_claims-requires-clause-canonical : goal.add_range_claims-requires-clause-canonical
add_range_claims-requires-clause-canonical g c = subst (λ (xs : List Range). IsCanonical xs) (sym c.deref.ensures.value) c.in_ok-whole.ensures.canonical

pub returns : goal.returns
returns g c s tree =
    let board = c.args.board.now in
    let space = space_of c.args.space in
    let whole : IsWhole space c.deref.result.now = subst (λ (xs : List Range). IsWhole space xs) (sym c.deref.ensures.value) c.in_ok-whole.ensures in
    let added = c.in_ok-add_range_claims.ensures in
    others_on (told_value board.told) board.outline.now board.on.now c.requires.each_on s tree c.requires.lawful (code_given_value board.given) c.args.bus space
    c.ranges_of-stretch.result c.ranges_of-stretch.ensures c.deref.result.now whole c.in_ok-claims.claims.items added.more
    (c.in_ok-claims.ensures s tree (λ a covers. (whole.exact a).0 covers))
    added.made _ added.appended
