use Rattle.std.proofs.Common.{◌≡◌, ◌<◌, ◌≤◌, Some, arith, sym, ap, subst, true, ◌∙◌}
use Rattle.pci_spec.specs.Bar.{is_run}
use Rattle.std.specs.Int.{w64, trailing_zeros}
use Rattle.pci_image.proofs.Comparators.{ones_from, ones_from-kept, no_run, start-of_run, run-of_start, run_to-of_run}
use Rattle.pci_image.proofs.comparator.run_start.Goals as goal

pub returns-then-ones-eq0 : goal.returns-then-ones-eq0
returns-then-ones-eq0 c k =
    let kept = ones_from-kept c.args.mask c.args.from c.ranges.mask.fits in (
      (λ none. absurd (cc)),
      (λ run. absurd (no_run c.args.mask c.args.from c.args.top c.requires.order c.requires.width c.ranges.mask.fits (sym kept ∙ c.if-ones-eq0.true) k run.0 run.1 run.2)),
    )

pub returns-then-ones-run : goal.returns-then-ones-run
returns-then-ones-run c k =
    let kept = ones_from-kept c.args.mask c.args.from c.ranges.mask.fits in
    let some : 0 < ones_from c.args.mask c.args.from = let nonzero = rw kept at c.if-ones-eq0.false in omega (arith, nonzero) in
    let is = rw kept at c.if-ones-run.true in
    rw kept (
      (λ same.
          let at : trailing_zeros w64 (ones_from c.args.mask c.args.from) ≡ k = cc in
          subst (λ j. (c.args.from ≤ j) × (j ≤ c.args.top) × (is_run c.args.from c.args.mask j c.args.top ≡ true)) at
          (run-of_start c.args.mask c.args.from c.args.top c.requires.order c.requires.width c.ranges.mask.fits some is)),
      (λ run. ap Some (start-of_run c.args.mask c.args.from c.args.top c.requires.order c.requires.width c.ranges.mask.fits some k run.0 run.1 run.2)),
    )

pub returns-else-ones-run : goal.returns-else-ones-run
returns-else-ones-run c k =
    let kept = ones_from-kept c.args.mask c.args.from c.ranges.mask.fits in
    let some : 0 < ones_from c.args.mask c.args.from = let nonzero = rw kept at c.if-ones-eq0.false in omega (arith, nonzero) in
    let isn't = rw kept at c.if-ones-run.false in (
      (λ none. absurd (cc)),
      (λ run. absurd (isn't (run_to-of_run c.args.mask c.args.from c.args.top c.requires.order c.requires.width c.ranges.mask.fits some k run.0 run.1 run.2))),
    )
