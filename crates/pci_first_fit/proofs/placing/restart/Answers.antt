use Rattle.std.proofs.Common.{arith}
use Rattle.pci_first_fit.proofs.Cursors.{restarted_more}
use Rattle.pci_first_fit.proofs.placing.restart.Goals as goal

pub loop-index-preserved : goal.loop-index-preserved
loop-index-preserved c =
    restarted_more _ _ _ c.loop-index.invariant (omega (arith, c.loop-index.invariant.count, c.loop-index-test.true)) _ c.first.ensures
