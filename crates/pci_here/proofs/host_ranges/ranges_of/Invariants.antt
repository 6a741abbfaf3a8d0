use Rattle.std.proofs.Common.{length}
use Rattle.pci_tree.specs.Roots.{buses_of}
use Rattle.pci_here.specs.Parts.{parts_left}
use Rattle.pci_here.specs.HostRanges.{HasFound, file_lines}
use Rattle.pci_here.proofs.host_ranges.ranges_of.Given as goal

abbrev pub invariant-lines : goal.invariant-lines
invariant-lines l = HasFound l.fn.domain (buses_of l.fn.roots) (file_lines l.fn.text) (parts_left 10 l.left) l.ranges.items

abbrev pub decreases-lines : goal.decreases-lines
decreases-lines l = length (parts_left 10 l.left)
