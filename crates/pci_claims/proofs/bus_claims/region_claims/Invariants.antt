use Rattle.std.proofs.Common.{take}
use Rattle.pci_base.specs.Space.{space_of}
use Rattle.pci_claims.specs.Values.{code_given_value}
use Rattle.pci_claims.specs.BusClaims.{AreRegionClaims}
use Rattle.pci_claims.proofs.bus_claims.region_claims.Given as goal

abbrev pub invariant-loop-region : goal.invariant-loop-region
invariant-loop-region g l = AreRegionClaims (code_given_value l.given) (space_of l.arriving.space) (take l.region-index l.regions) l.arriving.reach.now l.claims.items
