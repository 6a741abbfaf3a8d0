use Rattle.std.proofs.Common.{take}
use Rattle.pci_tree.specs.Roots.{buses_of}
use Rattle.pci_faults.proofs.Quieting.{NoneOnRoots}
use Rattle.pci_faults.proofs.quiet.are_roots_untold.Given as goal

abbrev pub invariant-loop-range : goal.invariant-loop-range
invariant-loop-range l = NoneOnRoots (buses_of l.roots) (take l.range-index l.ranges)
