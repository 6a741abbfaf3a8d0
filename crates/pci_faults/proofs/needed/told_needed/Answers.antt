use Rattle.pci_claims.specs.Values.{told_value}
use Rattle.pci_faults.proofs.NeededListing.{told_are}
use Rattle.pci_faults.proofs.needed.told_needed.Goals as goal

pub returns : goal.returns
returns g c =
    told_are (told_value c.args.board.now.told) c.args.board.now.outline.now c.new-list.result.items c.add_told.new.out.items c.sort.new.list.items c.new-list.ensures.items (c.in_ok-add_told.ensures c.args.board.now.outline.now c.requires.each_on)
    c.sort.ensures.permutation c.in_ok-sort.ensures.sorted
