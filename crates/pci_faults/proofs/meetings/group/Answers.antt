use Rattle.std.proofs.Common.{◌≡◌, ◌/◌, ◌∙◌, ap, sym, subst, arith}
use Rattle.pci_spec.specs.Slot.{Slot, IsSlot, slot_number}
use Rattle.pci_faults.specs.declared.shares.Among.{Among}
use Rattle.pci_claims.specs.Claim.{Claimed}
use Rattle.pci_faults.specs.Owned.{claim_group_at}
use Rattle.pci_faults.proofs.Owning.{claim_read}
use Rattle.pci_faults.proofs.meetings.group.Goals as goal

pub returns-in-Bus-clause-group : goal.returns-in-Bus-clause-group
returns-in-Bus-clause-group g c =
    subst (λ (among : Among). c.number-number.result ≡ claim_group_at among c.args.claims.now c.args.k) (sym c.in-Bus.is)
    (c.number-number.ensures.number ∙ ap slot_number (c.slot.ensures ∙ ap (λ (x : Claimed). x.slot) (claim_read c.args.claims.now c.args.k c.index-claims-k.result c.requires c.index-claims-k.is)))

pub returns-in-Bus-clause-slot : goal.returns-in-Bus-clause-slot
returns-in-Bus-clause-slot g c = subst (λ (x : Slot). IsSlot x) (c.slot.ensures ∙ ap (λ (x : Claimed). x.slot) (claim_read c.args.claims.now c.args.k c.index-claims-k.result c.requires c.index-claims-k.is)) c.number-number.ensures.slot

pub returns-in-Roots-clause-group : goal.returns-in-Roots-clause-group
returns-in-Roots-clause-group g c =
    let is = c.slot.ensures ∙ ap (λ (x : Claimed). x.slot) (claim_read c.args.claims.now c.args.k c.index-claims-k.result c.requires c.index-claims-k.is) in
    let number = c.number-number.ensures.number ∙ ap slot_number is in
    let slot = subst (λ (x : Slot). IsSlot x) is c.number-number.ensures.slot in
    subst (λ (among : Among). c.number-number.result / 256 ≡ claim_group_at among c.args.claims.now c.args.k) (sym c.in-Roots.is) (omega (arith, number, slot))

pub returns-in-Roots-clause-slot : goal.returns-in-Roots-clause-slot
returns-in-Roots-clause-slot g c = subst (λ (x : Slot). IsSlot x) (c.slot.ensures ∙ ap (λ (x : Claimed). x.slot) (claim_read c.args.claims.now c.args.k c.index-claims-k.result c.requires c.index-claims-k.is)) c.number-number.ensures.slot
