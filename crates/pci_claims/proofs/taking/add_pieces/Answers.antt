use Rattle.std.proofs.Common.{List, ◌++◌, arith, ap, subst, ◌∙◌}
use Rattle.pci_base.specs.declared.range.Range.{Range}
use Rattle.pci_tree.specs.Ranges.{Covers, IsCanonical}
use Rattle.pci_claims.specs.Taking.{IsAnswered}
use Rattle.pci_claims.proofs.Unclaiming.{pieces_behind, none_more, one_more, all_more}
use Rattle.pci_claims.proofs.taking.add_pieces.Goals as goal

pub loop-claim-init : goal.loop-claim-init
loop-claim-init g c = none_more IsAnswered c.args.out.now.items

pub loop-claim-preserved : goal.loop-claim-preserved
loop-claim-preserved g c =
    one_more IsAnswered c.args.claims.now c.loop-claim.claim-index c.claim-item.result c.args.out.now.items c.loop-claim.out.items _ c.loop-claim.invariant (omega arith) c.claim-item.is
    (pieces_behind (IsAnswered c.claim-item.result) c.loop-claim.out.items c.claim-item.result.pieces _ (subst (λ (xs : List Range). IsCanonical xs) c.pieces.ensures.value c.pieces.ensures.canonical).each
    (λ a. (λ (h : Covers c.claim-item.result.pieces a). h, λ (h : Covers c.claim-item.result.pieces a). h))
    (c.in_ok-extend_from_slice.ensures.items ∙ ap (λ (xs : List Range). c.loop-claim.out.items ++ xs) c.pieces.ensures.value))

pub returns : goal.returns
returns g c = all_more IsAnswered c.args.claims.now c.loop-claim.claim-index c.args.out.now.items c.loop-claim.out.items (omega arith) c.loop-claim.invariant
