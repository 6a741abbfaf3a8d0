use Rattle.std.proofs.Common.{false}
use Rattle.pci_faults.specs.Owned.{AreClaimsOwned}
use Rattle.pci_faults.proofs.meetings.add_before.Given as goal

abbrev pub invariant-loop-k : goal.invariant-loop-k
invariant-loop-k g l = AreClaimsOwned false l.k l.claims l.owners
