use Rattle.std.proofs.Common.{◌-◌, ◌≤◌}
use Rattle.pci_faults.specs.Owned.{AreClaimsBefore, AreBothOwned}
use Rattle.pci_faults.proofs.meetings.add_lesser.Given as goal

abbrev pub invariant-loop-n : goal.invariant-loop-n
invariant-loop-n g l = record {
  within : l.n ≤ l.i;
  before : AreClaimsBefore l.n l.i l.among l.claims;
  owned : AreBothOwned l.n l.claims l.owners.plain l.owners.held;
}

abbrev pub decreases-loop-n : goal.decreases-loop-n
decreases-loop-n g l = l.i - l.n
