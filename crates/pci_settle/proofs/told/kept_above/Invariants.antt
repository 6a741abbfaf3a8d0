use Rattle.settle_spec.specs.Kept.{Kept}
use Rattle.pci_place.specs.Above.{system_in}
use Rattle.pci_place.proofs.BusTables.{AreTo}
use Rattle.pci_settle.specs.Told.{IsTableOf}
use Rattle.pci_settle.proofs.KeptAbove.{IsKeptAbove}
use Rattle.pci_settle.proofs.told.kept_above.Given as goal

abbrev pub invariant-loop-k : goal.invariant-loop-k
invariant-loop-k g l = (keep : Kept) → IsTableOf (system_in l.admitted) keep.stays l.table → AreTo (IsKeptAbove (system_in l.admitted) keep) l.admitted.roots (system_in l.admitted) l.k l.ways
