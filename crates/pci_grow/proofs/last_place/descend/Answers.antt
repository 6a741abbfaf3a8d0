-- Where the walk goes on and where it ends.
use Rattle.std.proofs.Common.{◌+◌, ◌<◌, ◌^◌, IfNone, map, rules, subst, sym, arith}
use Rattle.settle_spec.specs.FirstPlace.{HasNoPlace}
use Rattle.pci_base.specs.Ranges.{decoded_range_of}
use Rattle.pci_first_fit.specs.Spots.{extent_value}
use Rattle.pci_grow.specs.LastPlaces.{IsDescended}
use Rattle.pci_grow.proofs.Late.{no_range, descend_before, descend_none, descend_past, descend_ends, descend_all}
use Rattle.pci_grow.proofs.last_place.descend.Goals as goal
use Rattle.pci_grow.proofs.last_place.descend.Goals.{then-other-at-2+in_ok-at, else-other-at-2}

pub loop-above-init : goal.loop-above-init
loop-above-init c = c.requires.from

pub returns-then-other-at-clause-found : goal.returns-then-other-at-clause-found
returns-then-other-at-clause-found c =
    let less = c.loop-above-test.true in
    descend_ends _ _ _ _ _ c.requires.extent c.loop-above.invariant _ (omega (arith, less)) no_range c.requires.order c.if-other-at.true

pub overflow_add-at : goal.overflow_add-at
overflow_add-at c =
    let last = c.loop-above.invariant.last in
    let low : c.args.range.last < 2 ^ 64 = search rules in
    omega (arith, last, low)

pub returns-in_err-at-clause-none : goal.returns-in_err-at-clause-none
returns-in_err-at-clause-none c =
    let less = c.loop-above-test.true in
    subst (λ o. IfNone o (HasNoPlace (decoded_range_of c.args.range) (map decoded_range_of c.args.taken.now) (extent_value c.args.extent))) (sym c.from_residual.ensures)
    (descend_none _ _ _ _ _ c.requires.extent c.loop-above.invariant _ (omega (arith, less)) no_range c.if-other-at.false c.if-other-at-2.true c.in_err-at.ensures)

pub loop-above-preserved : goal.loop-above-preserved
loop-above-preserved c =
    let less = c.loop-above-test.true in
    elim c.if-other-at-2.branch [
      | then-other-at-2+in_ok-at w ↦ subst (λ n. IsDescended c.args.range c.args.taken.now c.args.extent n (c.loop-above.above + 1)) (sym w.at-is)
          (subst (λ n. IsDescended c.args.range c.args.taken.now c.args.extent n (c.loop-above.above + 1)) (sym w.in_ok-at.ensures.1)
          (descend_before _ _ _ _ _ c.requires.extent c.loop-above.invariant _ (omega (arith, less)) no_range c.if-other-at.false w.if-other-at-2.true w.in_ok-at.ensures.0))
      | else-other-at-2 w ↦ subst (λ n. IsDescended c.args.range c.args.taken.now c.args.extent n (c.loop-above.above + 1)) (sym w.at-is)
          (descend_past _ _ _ _ _ c.requires.extent c.loop-above.invariant _ (omega (arith, less)) no_range w.if-other-at-2.false)
    ]

pub returns-clause-found : goal.returns-clause-found
returns-clause-found c = descend_all _ _ _ _ _ c.loop-above.invariant c.loop-above-test.false
