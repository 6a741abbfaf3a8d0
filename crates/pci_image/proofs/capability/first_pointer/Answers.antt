use Rattle.std.proofs.Common.{refl, arith}
use Rattle.pci_image.proofs.Registers.{bit-set, bit-clear}
use Rattle.pci_image.proofs.capability.first_pointer.Goals as goal

pub returns-then-u16-eq0 : goal.returns-then-u16-eq0
returns-then-u16-eq0 c = rw (rw c.u16.ensures at (bit-clear c.u16.result 4 c.if-u16-eq0.true (omega arith))) refl

pub returns-else-u16-eq0 : goal.returns-else-u16-eq0
returns-else-u16-eq0 c = rw (rw c.u16.ensures at (bit-set c.u16.result 4 c.if-u16-eq0.false)) c.pointer_at.ensures
