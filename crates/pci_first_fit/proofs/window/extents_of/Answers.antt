use Rattle.pci_first_fit.proofs.ItemExtents.{extents_more}
use Rattle.pci_first_fit.proofs.window.extents_of.Goals as goal

pub loop-item-preserved : goal.loop-item-preserved
loop-item-preserved g c =
    extents_more c.args.items.now c.loop-item.item-index c.loop-item.extents.items _ c.loop-item-test.true c.loop-item.invariant c.in_ok-push.ensures.items
