use Rattle.std.proofs.Common.{sym, ◌∙◌, subst}
use Rattle.pci_image.specs.declared.capability.Cap.{Cap}
use Rattle.pci_spec.specs.Capability.{capability_id}
use Rattle.pci_image.specs.Caps.{IsKindOf, place_of}
use Rattle.pci_listing.proofs.Messages.{capability_line-message}
use Rattle.pci_listing.proofs.listing.capability.CapabilityLine.of.Goals as goal

pub returns-in-Msi : goal.returns-in-Msi
returns-in-Msi c =
    let P : Cap → Type 0 = λ cap. IsKindOf (capability_id c.args.image.now.0 (place_of cap)) cap in
    let kind = subst P c.in-Msi.is c.requires.kind in
    rw c.in-Msi.is (c.of_message.ensures ∙ sym (capability_line-message c.args.image.now.0 c.in-Msi.place kind))
