use Rattle.std.proofs.Common.{List, [], ◌+◌, arith, subst, sym, take}
use Rattle.pci_base.specs.Space.{space_of}
use Rattle.pci_claims.specs.Values.{code_given_value}
use Rattle.pci_claims.specs.Claim.{Claimed}
use Rattle.pci_claims.specs.BusClaims.{AreRegionClaims}
use Rattle.pci_claims.proofs.BusClaiming.{no_region, one_region_more}
use Rattle.pci_claims.proofs.bus_claims.region_claims.Goals as goal

pub loop-region-init : goal.loop-region-init
loop-region-init g c = subst (λ (l : List Claimed). AreRegionClaims (code_given_value c.args.given.now) (space_of c.args.arriving.now.space) [] c.args.arriving.now.reach.now l) (sym c.new-claims.ensures.items)
    (no_region (code_given_value c.args.given.now) (space_of c.args.arriving.now.space) c.args.arriving.now.reach.now)

pub loop-region-preserved : goal.loop-region-preserved
loop-region-preserved g c =
    subst (λ (l : List Claimed). AreRegionClaims (code_given_value c.args.given.now) (space_of c.args.arriving.now.space) (take (c.loop-region.region-index + 1) c.args.regions.now) c.args.arriving.now.reach.now l) (sym c.in_ok-push.ensures.items)
    (one_region_more (code_given_value c.args.given.now) (space_of c.args.arriving.now.space) c.args.arriving.now.reach.now c.args.regions.now c.loop-region.region-index c.region-item.result c.loop-region.claims.items c.in_ok-claim.claim (omega arith) c.region-item.is
    c.loop-region.invariant c.in_ok-claim.ensures)
