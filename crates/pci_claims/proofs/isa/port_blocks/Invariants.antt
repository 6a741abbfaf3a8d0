use Rattle.pci_claims.specs.Isa.{ArePortBlocks}
use Rattle.pci_claims.proofs.isa.port_blocks.Given as goal

abbrev pub invariant-loop-kilobyte : goal.invariant-loop-kilobyte
invariant-loop-kilobyte g l = ArePortBlocks l.kilobyte l.out.items
