use Rattle.std.proofs.Common.{arith}
use Rattle.pci_picture.proofs.Plain.{same_more}
use Rattle.pci_picture.proofs.elements.are_plain.Goals as goal

pub loop-byte-preserved : goal.loop-byte-preserved
loop-byte-preserved c none =
    same_more c.args.bytes.now c.loop-byte.marks c.loop-byte.byte-index (omega arith) (omega arith) c.loop-byte.invariant none
