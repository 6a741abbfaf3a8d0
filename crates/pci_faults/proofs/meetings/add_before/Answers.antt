use Rattle.std.proofs.Common.{◌≡◌, ◌+◌, ◌<◌, length, false, ◌∙◌, ap, subst, sym, arith}
use Rattle.pci_claims.specs.Claim.{Claimed}
use Rattle.pci_faults.specs.Owned.{AreClaimsOwned}
use Rattle.pci_faults.proofs.Owning.{claim_read, one_read, one_passed}
use Rattle.pci_faults.proofs.meetings.add_before.Goals.{then-not-is_held+in_ok-add_pieces, else-not-is_held}
use Rattle.pci_faults.proofs.meetings.add_before.Goals as goal

pub loop-k-preserved : goal.loop-k-preserved
loop-k-preserved g c =
    let below = c.loop-k-test.true in
    let index = c.requires.index in
    let inside : c.loop-k.k < length c.args.claims.now = omega (arith, below, index) in
    let mark = c.is_held.ensures ∙ ap (λ (x : Claimed). x.held) (claim_read c.args.claims.now c.loop-k.k c.index-claims-k.result inside c.index-claims-k.is) in
    elim c.if-not-is_held.branch [
      | then-not-is_held+in_ok-add_pieces w ↦
          subst (λ o. AreClaimsOwned false (c.loop-k.k + 1) c.args.claims.now o) (sym w.owners-is)
          (one_read c.args.claims.now c.loop-k.k w.pieces.result.now c.loop-k.owners w.add_pieces.new.owners
          (w.pieces.ensures.value ∙ ap (λ (x : Claimed). x.pieces) (claim_read c.args.claims.now c.loop-k.k w.index-claims-k-then-not-is_held.result inside w.index-claims-k-then-not-is_held.is))
          (sym mark ∙ w.if-not-is_held.true) w.in_ok-add_pieces.ensures c.loop-k.invariant)
      | else-not-is_held w ↦
          subst (λ o. AreClaimsOwned false (c.loop-k.k + 1) c.args.claims.now o) (sym w.owners-is)
          (one_passed c.args.claims.now c.loop-k.k c.loop-k.owners (sym mark ∙ w.if-not-is_held.false) c.loop-k.invariant)
    ]

pub returns : goal.returns
returns g c =
    let low = c.loop-k-test.false in
    let high = c.loop-k.auto.k-end c.requires.from in
    let all : c.loop-k.k ≡ c.args.i = omega (arith, low, high) in
    subst (λ n. AreClaimsOwned false n c.args.claims.now c.loop-k.owners) all c.loop-k.invariant
