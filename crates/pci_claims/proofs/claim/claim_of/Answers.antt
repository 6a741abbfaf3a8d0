use Rattle.std.proofs.Common.{List, false, subst, sym}
use Rattle.pci_base.specs.declared.range.Range.{Range}
use Rattle.pci_base.specs.Space.{space_of}
use Rattle.pci_claims.specs.Values.{code_given_value}
use Rattle.pci_claims.specs.Claim.{IsClaimOfRegion}
use Rattle.pci_claims.specs.Gathered.{IsCommon}
use Rattle.pci_claims.proofs.RegionClaims.{region_claim}
use Rattle.pci_claims.proofs.claim.claim_of.Goals as goal

pub returns : goal.returns
returns g c =
    subst (λ n. IsClaimOfRegion (code_given_value c.args.given.now) (space_of c.args.space) c.args.region.now c.args.reach.now record { slot = c.args.region.now.slot; register = n; held = false; pieces = c.in_ok-pieces.pieces.items }) (sym c.from.ensures)
    (region_claim (code_given_value c.args.given.now) (space_of c.args.space) c.args.region.now c.args.reach.now c.in_ok-own.own.items c.in_ok-pieces.pieces.items c.in_ok-own.ensures
    (subst (λ (xs : List Range). IsCommon xs c.args.reach.now c.in_ok-pieces.pieces.items) c.deref.ensures.value c.in_ok-pieces.ensures))
