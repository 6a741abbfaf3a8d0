use Rattle.std.proofs.Common.{◌≤◌, ◌+◌, ◌-◌}
use Rattle.pci_faults.proofs.Filling.{IsAddedBelow}
use Rattle.pci_faults.proofs.owners.Owners.add.Given as goal

abbrev pub invariant-loop-found : goal.invariant-loop-found
invariant-loop-found g l = record {
  from : l.range.first ≤ l.first;
  within : l.first ≤ l.range.last;
  added : IsAddedBelow l.fn.self l.self l.range l.owner l.first;
}

abbrev pub decreases-loop-found : goal.decreases-loop-found
decreases-loop-found g l = l.range.last + 1 - l.first
