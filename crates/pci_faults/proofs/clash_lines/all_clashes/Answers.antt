use Rattle.pci_claims.specs.Values.{code_given_value, told_value}
use Rattle.pci_faults.proofs.AllClashing.{all_clashes_are}
use Rattle.pci_faults.proofs.clash_lines.all_clashes.Goals as goal

pub returns : goal.returns
returns g c =
    all_clashes_are (told_value c.args.board.now.told) c.requires.lawful (code_given_value c.args.board.now.given) c.args.board.now.outline.now c.new-clashes.result.items c.add_clashes.new.out.items c.sort_clashes.new.clashes.items c.new-clashes.ensures.items
    c.in_ok-add_clashes.ensures c.sort_clashes.ensures.permutation c.in_ok-sort_clashes.ensures.sorted
