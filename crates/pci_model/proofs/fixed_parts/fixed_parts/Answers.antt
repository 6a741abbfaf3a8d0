use Rattle.pci_model.proofs.fixed_parts.fixed_parts.Goals as goal

pub returns : goal.returns
returns c slot probe i = record { legacy = c.is_legacy_given.ensures slot probe i; palette = c.is_palette_given.ensures slot probe i }
