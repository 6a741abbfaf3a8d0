use Rattle.std.proofs.Common.{arith, ◌+◌}
use Rattle.pci_why.proofs.Gaps.{outside_read, outside_all}
use Rattle.pci_why.proofs.missed.outside.Goals as goal

pub loop-next-preserved : goal.loop-next-preserved
loop-next-preserved g c =
    outside_read c.args.range _ c.args.ranges.now c.loop-next.next-index c.loop-next.from c.from.result c.from-from.result c.loop-next.out.items c.add_between.new.out.items
    c.requires c.loop-next-test.true c.from.ensures c.from-from.ensures c.loop-next.invariant c.in_ok-add_between.ensures

pub returns : goal.returns
returns g c =
    outside_all c.args.range c.args.ranges.now c.loop-next.from (c.from-end.result + 1) c.loop-next.next-index c.loop-next.out.items c.add_between-2.new.out.items
    (omega (arith, c.from-end.ensures)) c.loop-next-test.false c.loop-next.invariant c.in_ok-add_between-2.ensures
