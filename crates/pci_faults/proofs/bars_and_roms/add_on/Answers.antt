use Rattle.std.proofs.lemmas.Result.{on_ok_weaker}
use Rattle.pci_faults.proofs.NeededListing.{both_spaces}
use Rattle.pci_faults.proofs.bars_and_roms.add_on.Goals as goal

pub returns : goal.returns
returns g c = on_ok_weaker c.add_in-2.result
    (both_spaces c.args.outline.now c.args.bus c.args.out.now.items c.add_in.new.out.items c.add_in-2.new.out.items c.in_ok-add_in.ensures) c.add_in-2.ensures
