use Rattle.std.proofs.Common.{arith, ◌∙◌, subst, ℕ, List}
use Rattle.pci_spec.specs.Text.{Block, text_of}
use Rattle.pci_dump.specs.Begun.{AppendsBeginning}
use Rattle.pci_dump.proofs.Told.{text_begun}
use Rattle.pci_dump.proofs.write.write_dump.Goals as goal

pub returns-in-Err-clause-begun : goal.returns-in-Err-clause-begun
returns-in-Err-clause-begun g c =
    let old = g.K.Sink.taken c.args.sink.now in
    let mid = g.K.Sink.taken c.loop-block.sink in
    let new = g.K.Sink.taken c.write_all.new.sink in
    let blocks = c.blocks-block-items.result.now in
    let one = subst (λ (t : List ℕ). AppendsBeginning mid new t) (c.as_slice.ensures.value ∙ c.put_block.ensures) c.in-Err.ensures.begun in
    subst (λ (bs : List Block). AppendsBeginning old new (text_of bs)) c.blocks-block-items.ensures.value
    (text_begun old mid new blocks c.loop-block.block-index c.block-item.result (omega arith) c.block-item.is c.loop-block.invariant.gone one)
