use Rattle.std.proofs.Common.{◌≡◌, ◌+◌, length, arith, subst, sym}
use Rattle.std.proofs.lemmas.Bool.{iff_false}
use Rattle.pci_check.proofs.Sweeps.{IsBest, best_more, best_same, claimant_at, claimant_of}
use Rattle.pci_check.proofs.sweep.least_claimant.Goals.{then-claims_after, else-claims_after}
use Rattle.pci_check.proofs.sweep.least_claimant.Goals as goal

pub loop-i-preserved : goal.loop-i-preserved
loop-i-preserved c = elim c.if-claims_after.branch [
  | then-claims_after w ↦ subst (λ o. IsBest (c.loop-i.i + 1) c.args.regions.now c.args.a c.args.after o) (sym w.best-is)
      (best_more c.loop-i.i c.args.regions.now c.args.a c.args.after c.loop-i.best _
      (claimant_at c.args.regions.now c.args.a c.args.after c.loop-i.i _ (omega arith) c.index-regions-i.is (c.claims_after.ensures.0 w.if-claims_after.true)) c.loop-i.invariant w.lesser.ensures)
  | else-claims_after w ↦ subst (λ o. IsBest (c.loop-i.i + 1) c.args.regions.now c.args.a c.args.after o) (sym w.best-is)
      (best_same c.loop-i.i c.args.regions.now c.args.a c.args.after c.loop-i.best
      (λ claim. iff_false c.claims_after.ensures w.if-claims_after.false (claimant_of c.args.regions.now c.args.a c.args.after c.loop-i.i _ c.index-regions-i.is claim)) c.loop-i.invariant)
]

pub returns : goal.returns
returns c = let e : c.loop-i.i ≡ length c.args.regions.now = omega arith in
    subst (λ n. IsBest n c.args.regions.now c.args.a c.args.after c.loop-i.best) e c.loop-i.invariant
