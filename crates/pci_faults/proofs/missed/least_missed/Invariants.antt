use Rattle.std.proofs.Common.{take}
use Rattle.pci_faults.proofs.Missing.{AllPassed}
use Rattle.pci_faults.proofs.missed.least_missed.Given as goal

abbrev pub invariant-loop-s : goal.invariant-loop-s
invariant-loop-s l = AllPassed l.range (take l.s-index l.sent) l.passed
