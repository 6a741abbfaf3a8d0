use Rattle.std.proofs.Common.{arith}
use Rattle.pci_machine.proofs.SizesBlocks.{block_there, block_cells}
use Rattle.pci_machine.proofs.sizes_block.block_into.Goals as goal
use Rattle.pci_machine.proofs.sizes_block.block_into.Goals.{then-text-ne10-via-then-text-ne10, then-text-ne10-via-else-text-ne10+then-text-ne10-2}

pub returns-then-text-ne10-clause-no : goal.returns-then-text-ne10-clause-no
returns-then-text-ne10-clause-no c = λ no f.
    let p = block_cells c.args.text.now f in
    elim c.then-text-ne10.branch [
      | then-text-ne10-via-then-text-ne10 w ↦ w.if-text-ne10.true p.head
      | then-text-ne10-via-else-text-ne10+then-text-ne10-2 w ↦ w.if-text-ne10-2.true p.end
    ]

pub returns-in-None-clause-no : goal.returns-in-None-clause-no
returns-in-None-clause-no c = λ no f. c.in-None.ensures.none (block_cells c.args.text.now f).slot

pub returns-clause-yes : goal.returns-clause-yes
returns-clause-yes c = λ yes.
    let slot = c.in-Some.ensures.some in
    let lines = c.lines_into.ensures.yes yes in (
      record { slot = slot.0; seven = c.lines_into.ensures.seven; each = lines.0 },
      block_there c.args.text.now _ (omega (arith, c.requires)) c.if-text-ne10.false c.if-text-ne10-2.false slot.1 lines.1,
    )

pub returns-clause-no : goal.returns-clause-no
returns-clause-no c = λ no f. c.lines_into.ensures.no no (block_cells c.args.text.now f).lines
