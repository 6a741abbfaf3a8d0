use Rattle.pci_dump.proofs.RowLine.{zero_more}
use Rattle.pci_dump.proofs.block_text.are_zero.Goals as goal

pub loop-byte-preserved : goal.loop-byte-preserved
loop-byte-preserved c = zero_more c.args.bytes.now c.loop-byte.bits c.loop-byte.byte-index c.loop-byte-test.true c.loop-byte.invariant
