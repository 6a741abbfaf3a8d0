use Rattle.std.proofs.Common.{◌∙◌}
use Rattle.std.proofs.lemmas.Result.{err_from_is_err_and}
use Rattle.pci_machine.proofs.SizesTaken.{taken_fault, some_left}
use Rattle.pci_machine.proofs.sizes_reader.take_blocks.Goals as goal

pub returns-in_err-take_block-clause-fault : goal.returns-in_err-take_block-clause-fault
returns-in_err-take_block-clause-fault g c =
    let p = err_from_is_err_and c.from_residual.result c.from_residual.ensures.1 in
    rw (p.1, p.2) (λ no_memory.
    taken_fault c.args.sizes.now c.args.bytes.now c.loop-rest.sizes c.loop-rest.rest.now c.split_at.result.0.now c.split_at.result.1.now c.in_err-take_block.field-0.0 c.loop-rest.invariant c.split_at.ensures.by_index.0
    (c.split_at.ensures.front_len ∙ c.min.ensures) (some_left c.loop-rest.rest.now c.is_empty.result c.is_empty.ensures c.loop-rest-test.true) (c.in_err-take_block.ensures.fault no_memory))
