use Rattle.std.proofs.Common.{arith, refl}
use Rattle.pci_why.proofs.LeastPlaces.{found_in_range, none_in_range, none_at_all}
use Rattle.pci_why.proofs.place.least_from.Goals as goal

pub returns-then-first-count-clause-least : goal.returns-then-first-count-clause-least
returns-then-first-count-clause-least c = λ can.
    found_in_range c.args.ranges.now c.args.count c.args.end c.args.from c.loop-range.range-index _ _ c.from-past.result c.multiple_from-first.result can c.loop-range-test.true
    refl c.from-past.ensures c.requires.some
    (omega (arith, c.start_in.ensures.start, c.multiple_from-first.ensures.from))
    (λ n le multiple. c.multiple_from-first.ensures.least n (omega (arith, c.start_in.ensures.start, le)) multiple)
    (c.loop-range.invariant can) c.multiple_from-first.ensures.multiple (omega (arith, c.min.ensures, c.if-first-count.true))

pub loop-range-preserved : goal.loop-range-preserved
loop-range-preserved c = λ can.
    none_in_range c.args.ranges.now c.args.count c.args.end c.args.from c.loop-range.range-index _ _ c.from-past.result c.multiple_from-first.result can c.loop-range-test.true
    refl c.from-past.ensures c.requires.some
    (omega (arith, c.start_in.ensures.start, c.multiple_from-first.ensures.from))
    (λ n le multiple. c.multiple_from-first.ensures.least n (omega (arith, c.start_in.ensures.start, le)) multiple)
    (c.loop-range.invariant can) (omega (arith, c.min.ensures, c.if-first-count.false))

pub returns-clause-least : goal.returns-clause-least
returns-clause-least c = λ can.
    none_at_all c.args.ranges.now c.args.count c.args.end c.args.from c.loop-range.range-index c.loop-range-test.false c.requires.some (c.loop-range.invariant can)
