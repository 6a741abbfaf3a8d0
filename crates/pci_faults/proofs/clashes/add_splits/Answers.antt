use Rattle.std.proofs.lemmas.Result.{on_ok_weaker}
use Rattle.pci_spec.specs.Order.{Splits}
use Rattle.pci_faults.proofs.Adding.{both_spaces}
use Rattle.pci_faults.proofs.clashes.add_splits.Goals as goal

pub returns : goal.returns
returns g c = on_ok_weaker c.add_splits_in-2.result
    (both_spaces c.args.outline.now Splits 0 c.args.out.now.items c.add_splits_in.new.out.items c.add_splits_in-2.new.out.items c.in_ok-add_splits_in.ensures) c.add_splits_in-2.ensures
