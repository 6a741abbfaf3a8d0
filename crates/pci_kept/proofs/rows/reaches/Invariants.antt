use Rattle.std.proofs.Common.{◌≡◌, ◌<◌, ℕ, length, get_or}
use Rattle.pci_kept.specs.declared.rows.Reach.{Reach}
use Rattle.pci_kept.specs.Rows.{AreRows, IsRowReach}
use Rattle.pci_kept.proofs.rows.reaches.Given as goal

abbrev pub invariant-loop-index : goal.invariant-loop-index
invariant-loop-index g l = record {
  size : length l.reaches.items ≡ l.index;
  each : AreRows l.rows → (k : ℕ) (d : Reach) → k < l.index → IsRowReach l.rows k (get_or l.reaches.items k d);
}
