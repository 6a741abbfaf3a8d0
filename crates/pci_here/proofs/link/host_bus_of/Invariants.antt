use Rattle.std.proofs.Common.{length}
use Rattle.pci_here.specs.Parts.{parts_left}
use Rattle.pci_here.proofs.Links.{HasSeen}
use Rattle.pci_here.proofs.link.host_bus_of.Given as goal

abbrev pub invariant-folders : goal.invariant-folders
invariant-folders l = HasSeen l.fn.path (parts_left 47 l.left) l.found

abbrev pub decreases-folders : goal.decreases-folders
decreases-folders l = length (parts_left 47 l.left)
