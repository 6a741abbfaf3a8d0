use Rattle.std.proofs.Common.{ℕ}
use Rattle.pci_tree.specs.Ranges.{Covers}
use Rattle.pci_check.specs.Sweep.{IsTwiceBelow}
use Rattle.pci_check.proofs.Sweeps.{IsReached}
use Rattle.pci_check.proofs.sweep.first_shared_address.Given as goal

abbrev pub invariant-loop-i : goal.invariant-loop-i
invariant-loop-i l = record {
  reached : IsReached l.i l.regions l.reached;
  none : (a : ℕ) → Covers l.allowed a → IsTwiceBelow l.i l.regions a → ⊥;
}
