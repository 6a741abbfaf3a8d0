use Rattle.std.proofs.Common.{◌∙◌, ap, sym, Some}
use Rattle.std.proofs.lemmas.Bool.{ltb-true}
use Rattle.pci_spec.specs.Stops.{last_slot}
use Rattle.pci_dump.proofs.Blocks.{last_by_get}
use Rattle.pci_dump.proofs.dump.Dump.last_slot.Goals as goal

pub returns-in-Some : goal.returns-in-Some
returns-in-Some g c =
    ap (λ b. Some b.slot) c.block.view_is
    ∙ last_by_get c.deref.result.now c.in-Some.block.now (ltb-true 0 _ (sym c.in-Some.ensures.item.0)) c.in-Some.ensures.value
    ∙ ap last_slot (c.deref.ensures.value ∙ c.self.view_is)
