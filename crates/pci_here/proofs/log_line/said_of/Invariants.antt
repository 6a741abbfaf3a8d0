use Rattle.std.proofs.Common.{length}
use Rattle.pci_here.specs.Parts.{parts_left}
use Rattle.pci_here.proofs.LogWords.{HasPassed}
use Rattle.pci_here.proofs.log_line.said_of.Given as goal

abbrev pub invariant-words : goal.invariant-words
invariant-words l = HasPassed l.fn.line (parts_left 32 l.left)

abbrev pub decreases-words : goal.decreases-words
decreases-words l = length (parts_left 32 l.left)
