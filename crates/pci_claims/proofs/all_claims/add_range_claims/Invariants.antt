use Rattle.std.proofs.Common.{◌≤◌}
use Rattle.pci_base.specs.Space.{space_of}
use Rattle.pci_claims.specs.BusClaims.{AreMoreClaims}
use Rattle.pci_claims.specs.AllClaims.{AreRangeClaims}
use Rattle.pci_claims.proofs.all_claims.add_range_claims.Given as goal

abbrev pub invariant-loop-i : goal.invariant-loop-i
invariant-loop-i g l = record {
  from : l.fn.stretch.first ≤ l.i;
  made : AreMoreClaims (AreRangeClaims l.board.told.ranges.now l.board.on.now l.fn.stretch.first l.i (space_of l.arriving.space) l.arriving.reach.now) l.fn.claims.items l.claims.items;
}
