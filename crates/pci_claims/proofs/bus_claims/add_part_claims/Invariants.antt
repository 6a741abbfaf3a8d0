use Rattle.std.proofs.Common.{take}
use Rattle.pci_base.specs.Space.{space_of}
use Rattle.pci_claims.specs.Values.{code_given_value}
use Rattle.pci_claims.specs.BusClaims.{ArePartClaims, AreMoreClaims}
use Rattle.pci_claims.proofs.bus_claims.add_part_claims.Given as goal

abbrev pub invariant-loop-slot : goal.invariant-loop-slot
invariant-loop-slot g l =
    AreMoreClaims (ArePartClaims (code_given_value l.given) l.part (space_of l.arriving.space) l.bridges.records.now l.arriving.reach.now (take l.slot-index l.bridges.slots.now)) l.fn.claims.items l.claims.items
