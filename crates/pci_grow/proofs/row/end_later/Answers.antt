use Rattle.std.proofs.Common.{◌<◌, length, arith, subst, sym}
use Rattle.pci_base.specs.declared.range.Range.{Range}
use Rattle.pci_first_fit.specs.Spots.{FirstsRise}
use Rattle.pci_grow.specs.LastPlaces.{LastsRise}
use Rattle.pci_grow.proofs.Ended.{later_order, later_lasts}
use Rattle.pci_grow.proofs.row.end_later.Goals as goal

pub returns-then-eq-clause-order : goal.returns-then-eq-clause-order
returns-then-eq-clause-order c = λ order.
    later_order c.args.row.now c.partition_point-index.result c.args.last _ c.if-index-row.true order

pub returns-then-eq-clause-rising : goal.returns-then-eq-clause-rising
returns-then-eq-clause-rising c = λ rising flag.
    let nothing : Range = record { first = 0; last = 0 } in
    later_lasts c.args.row.now c.partition_point-index.result c.args.last nothing c.if-index-row.true
    (c.may_end_at-rising.ensures.own nothing flag) (c.may_end_at-rising.ensures.next nothing flag) rising

pub returns-then-eq-2-clause-order : goal.returns-then-eq-2-clause-order
returns-then-eq-2-clause-order c = λ order.
    let within : c.loop-index.index < length c.loop-index.row = omega (arith, c.loop-index-test.true, c.loop-index.auto.row) in
    later_order c.loop-index.row c.loop-index.index c.args.last _ within (subst FirstsRise (sym c.loop-index.invariant.same) order)

pub returns-then-eq-2-clause-rising : goal.returns-then-eq-2-clause-rising
returns-then-eq-2-clause-rising c = λ rising flag.
    let nothing : Range = record { first = 0; last = 0 } in
    let within : c.loop-index.index < length c.loop-index.row = omega (arith, c.loop-index-test.true, c.loop-index.auto.row) in
    later_lasts c.loop-index.row c.loop-index.index c.args.last nothing within
    (c.may_end_at-rising-then-eq-2.ensures.own nothing flag) (c.may_end_at-rising-then-eq-2.ensures.next nothing flag) (subst LastsRise (sym c.loop-index.invariant.same) rising)
