use Rattle.std.proofs.Common.{List, [], arith, subst, sym}
use Rattle.pci_base.specs.declared.range.Range.{Range}
use Rattle.pci_base.specs.Space.{space_of}
use Rattle.pci_claims.specs.Values.{code_given_value}
use Rattle.pci_claims.specs.Taking.{OneHas, IsLeft, AreMorePieces}
use Rattle.pci_claims.proofs.Unclaiming.{none_more, one_more, all_more}
use Rattle.pci_claims.proofs.taking.own_pieces.Goals as goal

pub loop-region-init : goal.loop-region-init
loop-region-init g c =
    subst (λ (xs : List Range). AreMorePieces (OneHas (IsLeft (code_given_value c.args.given.now) (space_of c.args.space)) []) [] xs) (sym c.in-Ok.ensures.items)
    (none_more (IsLeft (code_given_value c.args.given.now) (space_of c.args.space)) [])

pub loop-region-preserved : goal.loop-region-preserved
loop-region-preserved g c =
    one_more (IsLeft (code_given_value c.args.given.now) (space_of c.args.space)) c.args.regions.now c.loop-region.region-index c.region-item.result [] c.loop-region.out.items _ c.loop-region.invariant (omega arith) c.region-item.is
    c.in_ok-add_own.ensures

pub returns : goal.returns
returns g c = all_more (IsLeft (code_given_value c.args.given.now) (space_of c.args.space)) c.args.regions.now c.loop-region.region-index [] c.loop-region.out.items (omega arith) c.loop-region.invariant
