use Rattle.pci_machine.proofs.SizesLines.{IsSpelled}
use Rattle.pci_machine.proofs.sizes_line.digits_of.Given as goal

abbrev pub invariant-loop-place : goal.invariant-loop-place
invariant-loop-place l = IsSpelled l.digits l.place l.number
