use Rattle.std.proofs.Common.{◌≤◌, take}
use Rattle.pci_tree.specs.Ranges.{Holds, Covers}
use Rattle.pci_tree.specs.Passing.{IsPush}
use Rattle.pci_claims.proofs.gather.add_common.Given as goal

abbrev pub invariant-loop-i : goal.invariant-loop-i
invariant-loop-i g l = record { from : l.from ≤ l.i; push : IsPush l.fn.out.items l.out.items (λ a. Holds l.r a × Covers (take l.i l.ss) a) }
