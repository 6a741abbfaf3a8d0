use Rattle.std.proofs.lemmas.Result.{on_ok_weaker}
use Rattle.pci_claims.specs.Values.{code_given_value, told_value}
use Rattle.pci_faults.proofs.AllClashing.{both_spaces}
use Rattle.pci_faults.proofs.clash_lines.add_clashes_on.Goals as goal

pub returns : goal.returns
returns g c = on_ok_weaker c.add_clashes_in-2.result
    (both_spaces (told_value c.args.board.now.told) (code_given_value c.args.board.now.given) c.args.board.now.outline.now c.args.bus c.args.out.now.items c.add_clashes_in.new.out.items c.add_clashes_in-2.new.out.items c.in_ok-add_clashes_in.ensures) c.add_clashes_in-2.ensures
