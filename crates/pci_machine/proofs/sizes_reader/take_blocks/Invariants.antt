use Rattle.std.proofs.Common.{length}
use Rattle.pci_machine.proofs.SizesTaken.{AreTaken}
use Rattle.pci_machine.proofs.sizes_reader.take_blocks.Given as goal

abbrev pub invariant-loop-rest : goal.invariant-loop-rest
invariant-loop-rest g l = AreTaken l.initial.sizes l.bytes l.sizes l.rest

abbrev pub decreases-loop-rest : goal.decreases-loop-rest
decreases-loop-rest g l = length l.rest
