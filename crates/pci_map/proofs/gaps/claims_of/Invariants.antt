use Rattle.std.proofs.Common.{take}
use Rattle.pci_base.specs.Space.{space_of}
use Rattle.pci_claims.specs.Values.{code_given_value}
use Rattle.pci_map.specs.Gaps.{AreClaimedBy}
use Rattle.pci_map.proofs.gaps.claims_of.Given as goal

abbrev pub invariant-loop-seat : goal.invariant-loop-seat
invariant-loop-seat g l = AreClaimedBy (code_given_value l.given) (space_of l.space) (take l.seat-index l.seats) l.out.items
