use Rattle.std.proofs.Common.{◌+◌, ◌<◌, length, ◌∙◌, ap, subst, sym, arith}
use Rattle.pci_claims.specs.Claim.{Claimed}
use Rattle.pci_faults.specs.Owned.{claim_group_at, AreBothOwned}
use Rattle.pci_faults.proofs.Owning.{claim_read, plain_read, held_read, before_more}
use Rattle.pci_faults.proofs.meetings.add_lesser.Goals.{then-is_held+in_ok-add_pieces, else-is_held+in_ok-add_pieces-2}
use Rattle.pci_faults.proofs.meetings.add_lesser.Goals as goal

pub loop-n-preserved : goal.loop-n-preserved
loop-n-preserved g c =
    let below = c.loop-n-test.true in
    let index = c.requires.index in
    let group = c.group.ensures.group in
    let other = c.group-in-loop-n.ensures.group in
    let less = c.if-group.true in
    let here : claim_group_at c.args.among c.args.claims.now c.loop-n.n < claim_group_at c.args.among c.args.claims.now c.args.i = omega (arith, group, other, less) in
    let inside : c.loop-n.n < length c.args.claims.now = omega (arith, below, index) in
    let mark = c.is_held.ensures ∙ ap (λ (x : Claimed). x.held) (claim_read c.args.claims.now c.loop-n.n c.index-claims-n.result inside c.index-claims-n.is) in
    record {
      within = omega (arith, below);
      before = before_more c.loop-n.n c.args.i c.args.among c.args.claims.now here c.loop-n.invariant.before;
      owned = elim c.if-is_held.branch [
        | then-is_held+in_ok-add_pieces w ↦
            subst (λ o. AreBothOwned (c.loop-n.n + 1) c.args.claims.now o.plain o.held) (sym w.owners-is)
            (held_read c.args.claims.now c.loop-n.n w.pieces.result.now c.loop-n.owners.plain c.loop-n.owners.held w.add_pieces.new.owners
            (w.pieces.ensures.value ∙ ap (λ (x : Claimed). x.pieces) (claim_read c.args.claims.now c.loop-n.n w.index-claims-n-then-is_held.result inside w.index-claims-n-then-is_held.is))
            (sym mark ∙ w.if-is_held.true) w.in_ok-add_pieces.ensures c.loop-n.invariant.owned)
        | else-is_held+in_ok-add_pieces-2 w ↦
            subst (λ o. AreBothOwned (c.loop-n.n + 1) c.args.claims.now o.plain o.held) (sym w.owners-is)
            (plain_read c.args.claims.now c.loop-n.n w.pieces-else-is_held.result.now c.loop-n.owners.plain w.add_pieces-else-is_held.new.owners c.loop-n.owners.held
            (w.pieces-else-is_held.ensures.value ∙ ap (λ (x : Claimed). x.pieces) (claim_read c.args.claims.now c.loop-n.n w.index-claims-n-else-is_held.result inside w.index-claims-n-else-is_held.is))
            (sym mark ∙ w.if-is_held.false) w.in_ok-add_pieces-2.ensures c.loop-n.invariant.owned)
      ];
    }
