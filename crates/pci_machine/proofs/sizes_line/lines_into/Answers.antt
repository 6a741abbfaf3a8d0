use Rattle.std.proofs.Common.{arith, ◌∙◌}
use Rattle.std.proofs.lemmas.List.{length-set}
use Rattle.pci_machine.proofs.SizesLines.{one_of_lines, read_more}
use Rattle.pci_machine.proofs.sizes_line.lines_into.Goals as goal

pub returns-in-None-clause-no : goal.returns-in-None-clause-no
returns-in-None-clause-no c = λ no f. c.in-None.ensures.none (one_of_lines c.args.text.now c.loop-n.n (omega arith) f)

pub loop-n-preserved : goal.loop-n-preserved
loop-n-preserved c =
    let seven = c.loop-n.invariant.seven in
    record {
      seven = length-set c.loop-n.lines c.loop-n.n c.in-Some.line ∙ seven;
      read = read_more c.args.text.now c.loop-n.lines c.loop-n.n c.in-Some.line (omega (arith, seven)) c.loop-n.invariant.read c.in-Some.ensures.some;
    }
