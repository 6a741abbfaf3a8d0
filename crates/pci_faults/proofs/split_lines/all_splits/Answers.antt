use Rattle.pci_claims.specs.Values.{code_given_value, told_value}
use Rattle.pci_faults.proofs.AllSplitting.{all_splits_are}
use Rattle.pci_faults.proofs.split_lines.all_splits.Goals as goal

pub returns : goal.returns
returns g c =
    all_splits_are (told_value c.args.board.now.told) c.requires.lawful (code_given_value c.args.board.now.given) c.args.board.now.outline.now c.new-splits.result.items c.add_splits.new.out.items c.sort_splits.new.splits.items c.new-splits.ensures.items
    c.in_ok-add_splits.ensures c.sort_splits.ensures.permutation c.in_ok-sort_splits.ensures.sorted
