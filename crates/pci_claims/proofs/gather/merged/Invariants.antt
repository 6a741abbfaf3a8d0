use Rattle.pci_claims.proofs.Gathering.{IsOpen}
use Rattle.pci_claims.proofs.gather.merged.Given as goal

abbrev pub invariant-loop-i : goal.invariant-loop-i
invariant-loop-i g l = IsOpen l.ranges l.i l.out.items l.open
