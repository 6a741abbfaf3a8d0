use Rattle.pci_dump.proofs.Marks.{IsWritten}
use Rattle.pci_dump.proofs.mark.mark.Given as goal

abbrev pub invariant-loop-register : goal.invariant-loop-register
invariant-loop-register l = IsWritten l.registers l.register-index l.text.items l.separator
