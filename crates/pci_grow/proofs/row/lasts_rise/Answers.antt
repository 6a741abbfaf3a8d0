use Rattle.std.proofs.Common.{arith}
use Rattle.pci_base.specs.declared.range.Range.{Range}
use Rattle.pci_grow.proofs.Rising.{lasts_next}
use Rattle.pci_grow.proofs.row.lasts_rise.Goals as goal

pub loop-index-preserved : goal.loop-index-preserved
loop-index-preserved c =
    let nothing : Range = record { first = 0; last = 0 } in
    lasts_next c.args.row.now c.loop-index.index nothing (omega (arith, c.loop-index.auto.index)) c.loop-index-test.true c.loop-index.invariant c.if-row-index.false
