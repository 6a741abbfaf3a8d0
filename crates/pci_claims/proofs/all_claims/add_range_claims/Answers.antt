use Rattle.std.proofs.Common.{◌+◌, get_or, ap, ◌∙◌, subst, sym, arith}
use Rattle.std.proofs.lemmas.Bool.{both_ways, iff_false}
use Rattle.std.proofs.lemmas.Option.{slice_get-get_or}
use Rattle.pci_base.specs.Space.{space_of}
use Rattle.pci_claims.specs.BusClaims.{AreMoreClaims}
use Rattle.pci_claims.specs.AllClaims.{AreRangeClaims}
use Rattle.pci_claims.proofs.AllClaiming.{range_more, range_less}
use Rattle.pci_claims.proofs.all_claims.add_range_claims.Goals.{then-board-i+then-is_in+in_ok-claim+in_ok-push, else-board-i, else-board-i-via-then-board-i+else-is_in, else-board-i-via-else-board-i}
use Rattle.pci_claims.proofs.all_claims.add_range_claims.Goals as goal

pub loop-i-preserved : goal.loop-i-preserved
loop-i-preserved g c =
    let board = c.args.board.now in
    let ranges = board.told.ranges.now in
    let from = c.loop-i.invariant.from in
    let inside = c.loop-i-test.true in
    let high = c.requires.high in
    let r = get_or ranges c.loop-i.i c.index-board-i.result in
    let at = slice_get-get_or ranges c.loop-i.i c.index-board-i.result (omega (arith, inside, high)) in
    record {
      from = omega (arith, from);
      made = elim c.if-board-i.branch [
        | then-board-i+then-is_in+in_ok-claim+in_ok-push w ↦
            range_more ranges board.on.now c.args.stretch.first (space_of c.args.arriving.now.space) c.args.arriving.now.reach.now c.loop-i.i r from at c.args.claims.now.items c.loop-i.claims.items
            c.loop-i.invariant.made w.in_ok-claim.claim c.if-board-i.claims.items w.if-board-i.true (w.is_in.ensures.0 w.if-is_in.true)
            w.in_ok-claim.ensures
            (ap (λ v. v.items) w.claims-is ∙ w.in_ok-push.ensures.items)
        | else-board-i w ↦
            subst (AreMoreClaims (AreRangeClaims ranges board.on.now c.args.stretch.first (c.loop-i.i + 1) (space_of c.args.arriving.now.space) c.args.arriving.now.reach.now) c.args.claims.now.items) (sym (ap (λ v. v.items) w.claims-is))
            (range_less ranges board.on.now c.args.stretch.first (space_of c.args.arriving.now.space) c.args.arriving.now.reach.now c.loop-i.i r from at c.args.claims.now.items c.loop-i.claims.items
            c.loop-i.invariant.made (λ is. elim w.else-board-i.branch [
              | else-board-i-via-then-board-i+else-is_in v ↦ iff_false v.is_in.ensures v.if-is_in.false is.space
              | else-board-i-via-else-board-i v ↦ both_ways _ v.if-board-i.false is.on
            ]))
      ];
    }
