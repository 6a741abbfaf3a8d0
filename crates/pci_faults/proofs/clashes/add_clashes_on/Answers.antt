use Rattle.std.proofs.lemmas.Result.{on_ok_weaker}
use Rattle.pci_spec.specs.Order.{Clashes}
use Rattle.pci_faults.proofs.Adding.{both_spaces}
use Rattle.pci_faults.proofs.clashes.add_clashes_on.Goals as goal

pub returns : goal.returns
returns g c = on_ok_weaker c.add_clashes_in-2.result
    (both_spaces c.args.board.now.outline.now Clashes c.args.bus c.args.out.now.items c.add_clashes_in.new.out.items c.add_clashes_in-2.new.out.items c.in_ok-add_clashes_in.ensures) c.add_clashes_in-2.ensures
