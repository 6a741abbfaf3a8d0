use Rattle.pci_first_fit.proofs.ItemExtents.{no_item}
use Rattle.pci_settle_places.specs.Candidates.{of_class}
use Rattle.pci_settle_places.proofs.Added.{more_of, all_of}
use Rattle.pci_settle_places.proofs.candidate.add_items.Goals as goal

pub loop-item-preserved : goal.loop-item-preserved
loop-item-preserved g c =
    more_of (of_class c.args.class) c.args.candidates.now.items c.args.items.now c.loop-item.item-index no_item c.loop-item.candidates.items _ c.loop-item-test.true c.loop-item.invariant c.in_ok-push.ensures.items

pub returns : goal.returns
returns g c = all_of (of_class c.args.class) c.args.candidates.now.items c.args.items.now c.loop-item.item-index c.loop-item.candidates.items c.loop-item-test.false c.loop-item.invariant
