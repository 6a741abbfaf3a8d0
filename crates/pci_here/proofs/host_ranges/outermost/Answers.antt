use Rattle.std.proofs.Common.{◌∙◌}
use Rattle.pci_here.proofs.Outer.{looked}
use Rattle.pci_here.proofs.host_ranges.outermost.Goals as goal

pub loop-range-preserved : goal.loop-range-preserved
loop-range-preserved c =
    c.loop-range.invariant
    ∙ looked c.loop-range.list.items c.add_outermost.new.list.items c.args.ranges.now c.loop-range.range-index c.loop-range-test.true c.in_ok-add_outermost.ensures
