use Rattle.std.proofs.Common.{sym, subst, List, ◌++◌, ◌∷◌, []}
use Rattle.pci_spec.specs.SizesText.{SizesBlock, IsSizes}
use Rattle.pci_dump.specs.declared.read_fault.ReadFault.TheVariants as faults
use Rattle.pci_machine.specs.SizesFault.{IsSizesFaultAfter}
use Rattle.pci_machine.proofs.SizesTaken.{many_here, no_io_after, sizes_more}
use Rattle.pci_machine.proofs.sizes_reader.take_block.Goals as goal

pub returns-then-blocks-eq-BLOCKS_MAX-clause-fault : goal.returns-then-blocks-eq-BLOCKS_MAX-clause-fault
returns-then-blocks-eq-BLOCKS_MAX-clause-fault g c = λ no_memory.
    subst (λ (blocks : List SizesBlock). IsSizesFaultAfter blocks c.args.bytes.now (faults.TooMany 36865)) c.blocks-blocks.ensures.value
    (many_here c.blocks-blocks.result.now c.args.bytes.now (subst IsSizes (sym c.blocks-blocks.ensures.value) c.blocks-blocks.ensures.sizes) c.requires.some c.if-blocks-eq-BLOCKS_MAX.true)

pub returns-then-not-block_after-clause-fault : goal.returns-then-not-block_after-clause-fault
returns-then-not-block_after-clause-fault g c = λ no_memory. subst (λ (blocks : List SizesBlock). IsSizesFaultAfter blocks c.args.bytes.now c.fault_after.result) c.blocks-blocks.ensures.value c.fault_after.ensures

pub returns-then-not-block_after-clause-no_io : goal.returns-then-not-block_after-clause-no_io
returns-then-not-block_after-clause-no_io g c = no_io_after c.blocks-blocks.result.now c.args.bytes.now c.fault_after.result c.fault_after.ensures

pub append-requires : goal.append-requires
append-requires g c =
    let read = c.block_after.ensures.yes c.if-not-block_after.false in
    subst (λ (blocks : List SizesBlock). IsSizes (blocks ++ c.block_after.new.block ∷ [])) c.blocks-blocks.ensures.value
    (sizes_more c.blocks-blocks.result.now c.block_after.new.block (subst IsSizes (sym c.blocks-blocks.ensures.value) c.blocks-blocks.ensures.sizes) read.0 read.2 c.if-blocks-eq-BLOCKS_MAX.false)

pub returns-in-Ok-clause-sizes : goal.returns-in-Ok-clause-sizes
returns-in-Ok-clause-sizes g c =
    let read = c.block_after.ensures.yes c.if-not-block_after.false in
    subst IsSizes (sym c.in-Ok.ensures.ok)
    (subst (λ (blocks : List SizesBlock). IsSizes (blocks ++ c.block_after.new.block ∷ [])) c.blocks-blocks.ensures.value
    (sizes_more c.blocks-blocks.result.now c.block_after.new.block (subst IsSizes (sym c.blocks-blocks.ensures.value) c.blocks-blocks.ensures.sizes) read.0 read.2 c.if-blocks-eq-BLOCKS_MAX.false))
