use Rattle.std.proofs.Common.{take}
use Rattle.pci_tree.specs.Passing.{IsReach}
use Rattle.pci_tree.proofs.forwarded.passed_on.Given as goal

abbrev pub invariant-loop-r : goal.invariant-loop-r
invariant-loop-r g l = IsReach (take l.r-index l.rs) l.forwarded l.out.items
