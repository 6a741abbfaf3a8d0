use Rattle.std.proofs.Common.{◌∙◌, ap, sym, subst}
use Rattle.pci_faults.specs.declared.shares.Among.{Among}
use Rattle.pci_faults.specs.Clashes.{IsFoundBelow}
use Rattle.pci_faults.specs.Owned.{AreLesserClaims}
use Rattle.pci_claims.specs.Claim.{Claimed}
use Rattle.pci_faults.proofs.Owning.{claim_read, least_found, roots_found, held_alone}
use Rattle.pci_faults.proofs.meetings.least_before.Goals as goal

pub meeting_from-requires-clause-found : goal.meeting_from-requires-clause-found
meeting_from-requires-clause-found g c =
    least_found c.args.among c.args.claims.now c.args.added c.args.i c.requires.index c.requires.lesser c.args.owners.now.plain c.args.owners.now.held c.requires.owned c.least_owned-found.result c.least_owned-found.ensures

pub returns-then-is_held : goal.returns-then-is_held
returns-then-is_held g c =
    held_alone c.args.among c.args.claims.now c.args.added c.args.i c.requires.lesser
    (sym (c.is_held.ensures ∙ ap (λ (x : Claimed). x.held) (claim_read c.args.claims.now c.args.i c.index-claims-i.result c.requires.index c.index-claims-i.is)) ∙ c.if-is_held.true) c.least_owned-found.result
    (least_found c.args.among c.args.claims.now c.args.added c.args.i c.requires.index c.requires.lesser c.args.owners.now.plain c.args.owners.now.held c.requires.owned c.least_owned-found.result c.least_owned-found.ensures)

pub returns-in-Roots : goal.returns-in-Roots
returns-in-Roots g c =
    subst (λ (among : Among). IsFoundBelow among c.args.i c.args.claims.now c.args.i c.least_owned-found.result) (sym c.in-Roots.is)
    (roots_found c.args.claims.now c.args.added c.args.i (subst (λ (among : Among). AreLesserClaims c.args.added c.args.i among c.args.claims.now) c.in-Roots.is c.requires.lesser)
    c.least_owned-found.result
    (subst (λ (among : Among). IsFoundBelow among c.args.added c.args.claims.now c.args.i c.least_owned-found.result) c.in-Roots.is
    (least_found c.args.among c.args.claims.now c.args.added c.args.i c.requires.index c.requires.lesser c.args.owners.now.plain c.args.owners.now.held c.requires.owned c.least_owned-found.result c.least_owned-found.ensures)))
