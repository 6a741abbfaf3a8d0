use Rattle.std.proofs.Common.{◌≤◌, ◌<◌, length, false}
use Rattle.pci_faults.specs.Shares.{AreWithin}
use Rattle.pci_faults.specs.Clashes.{AreMeetingsBelow}
use Rattle.pci_faults.specs.Owned.{AreClaimsBefore, AreClaimsOwned, AreBothOwned}
use Rattle.pci_faults.proofs.meetings.by_owners.Given as goal

abbrev pub invariant-loop-i : goal.invariant-loop-i
invariant-loop-i g l = record {
  within : l.added ≤ l.i;
  before : l.i < length l.claims → AreClaimsBefore l.added l.i l.among l.claims;
  owned : AreBothOwned l.added l.claims l.owners.plain l.owners.held;
  in_all : l.in_all ≤ l.i;
  all_owned : AreClaimsOwned false l.in_all l.claims l.all;
  places : AreWithin (length l.claims) l.out.items;
  exact : AreMeetingsBelow l.among l.i l.claims l.out.items;
}
