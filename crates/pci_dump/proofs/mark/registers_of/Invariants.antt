use Rattle.std.proofs.Common.{length}
use Rattle.pci_dump.proofs.Marks.{IsSoFar}
use Rattle.pci_dump.proofs.mark.registers_of.Given as goal

abbrev pub invariant-loop-rest : goal.invariant-loop-rest
invariant-loop-rest l = IsSoFar l.text l.registers.items l.rest l.separator

abbrev pub decreases-loop-rest : goal.decreases-loop-rest
decreases-loop-rest l = length l.rest
