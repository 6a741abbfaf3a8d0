use Rattle.pci_faults.proofs.Listing.{all_just, all_of_judging, none_of_judging}
use Rattle.pci_faults.proofs.judging.all_of_judging.Goals as goal

pub returns-in-None : goal.returns-in-None
returns-in-None g c =
    none_of_judging c.args.outline.now c.new-faults.result.items c.new-faults.ensures.items (rw c.in-None.is at c.in_ok-judge.ensures.judgement) c.in_ok-judge.ensures.nested

pub returns : goal.returns
returns g c s tree =
    all_of_judging c.args.outline.now c.in_ok-reached.ensures.nested c.add_splits.new.out.items c.sort.new.faults.items s tree
    (all_just c.args.outline.now c.new-faults.result.items c.add_unreached.new.out.items c.add_clashes.new.out.items c.add_splits.new.out.items c.new-faults.ensures.items
    c.in_ok-add_unreached.ensures c.in_ok-add_clashes.ensures c.in_ok-add_splits.ensures s tree)
    c.sort.ensures.permutation c.in_ok-sort.ensures.sorted
