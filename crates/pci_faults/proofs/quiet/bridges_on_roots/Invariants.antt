use Rattle.std.proofs.Common.{take}
use Rattle.std.specs.List.{Contains}
use Rattle.pci_tree.specs.Roots.{buses_of}
use Rattle.pci_faults.specs.Quiet.{HasThoseOn}
use Rattle.pci_faults.proofs.quiet.bridges_on_roots.Given as goal

abbrev pub invariant-loop-bridge : goal.invariant-loop-bridge
invariant-loop-bridge g l = HasThoseOn (Contains (buses_of l.roots)) (take l.bridge-index l.bridges) l.out.items
