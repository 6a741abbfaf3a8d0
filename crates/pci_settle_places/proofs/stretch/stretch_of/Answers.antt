use Rattle.std.proofs.Common.{arith}
use Rattle.pci_settle_places.proofs.Stretching.{covered_more}
use Rattle.pci_settle_places.proofs.stretch.stretch_of.Goals as goal

pub loop-row-preserved : goal.loop-row-preserved
loop-row-preserved c =
    record {
      rows = grind (arith, c.with_row-stretch.ensures.rows, c.loop-row.invariant.rows);
      covered = covered_more c.args.rows.now c.loop-row.row-index c.loop-row.stretch c.with_row-stretch.result c.row-item.result c.loop-row-test.true c.row-item.is c.with_row-stretch.ensures.others c.with_row-stretch.ensures.own c.loop-row.invariant.covered;
    }
