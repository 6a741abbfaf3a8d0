use Rattle.std.proofs.Common.{◌≡◌, refl, arith, sym, ◌∙◌, ap, subst, List}
use Rattle.pci_spec.specs.Slot.{Slot, slot_number}
use Rattle.pci_spec.specs.Text.{Block}
use Rattle.pci_faults.specs.Slots.{IsFirstSlotNumber}
use Rattle.pci_faults.proofs.Merging.{drop_slots, drop_slots_end}
use Rattle.pci_faults.proofs.slots.number_at.Goals as goal

pub returns-then-k-blocks-clause-front : goal.returns-then-k-blocks-clause-front
returns-then-k-blocks-clause-front c =
    let b : Block = c.index-blocks-k.result in
    let e : c.from.result ≡ slot_number b.slot = c.from.ensures ∙ c.number.ensures.number ∙ ap (λ (x : Block). slot_number x.slot) c.block.view_is in
    subst (λ (xs : List Slot). IsFirstSlotNumber xs c.from.result) (sym (drop_slots c.args.blocks.now c.args.k b (omega arith) c.index-blocks-k.is)) e

pub returns-else-k-blocks-clause-front : goal.returns-else-k-blocks-clause-front
returns-else-k-blocks-clause-front c = subst (λ (xs : List Slot). IsFirstSlotNumber xs 0x10000) (sym (drop_slots_end c.args.blocks.now c.args.k (omega arith))) refl
