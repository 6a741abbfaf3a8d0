use Rattle.std.proofs.Common.{length}
use Rattle.pci_here.specs.HostRanges.{file_lines}
use Rattle.pci_here.specs.LogLine.{HasTold}
use Rattle.pci_here.specs.Parts.{parts_left}
use Rattle.pci_here.proofs.log.lines_told.Given as goal

abbrev pub invariant-lines : goal.invariant-lines
invariant-lines l = HasTold (file_lines l.fn.text) (parts_left 10 l.left) l.told.items

abbrev pub decreases-lines : goal.decreases-lines
decreases-lines l = length (parts_left 10 l.left)
