use Rattle.std.proofs.Common.{true, false, [], ◌∷◌, ◌++◌, sym, ◌∙◌, ap}
use Rattle.std.proofs.lemmas.List.{append-nil}
use Rattle.pci_spec.specs.Text.{Block}
use Rattle.pciplan_tasks.proofs.ShownSlots.{shown_more}
use Rattle.pciplan_tasks.proofs.slots.slots_shown.Goals as goal
use Rattle.pciplan_tasks.proofs.slots.slots_shown.Goals.{then-shows_slot+in_ok-push, else-shows_slot}

pub loop-block-preserved : goal.loop-block-preserved
loop-block-preserved g c = elim c.if-shows_slot.branch [
  | then-shows_slot+in_ok-push w ↦
      shown_more c.args.dump.now c.loop-block.block-index c.block-item.result c.loop-block.slots.items c.if-shows_slot.slots.items true
      c.loop-block-test.true c.block-item.is (sym w.if-shows_slot.true ∙ c.shows_slot.ensures) c.loop-block.invariant
      (ap (λ v. v.items) w.slots-is ∙ w.in_ok-push.ensures.items
      ∙ ap (λ (b : Block). c.loop-block.slots.items ++ b.slot ∷ []) c.block.view_is)
  | else-shows_slot w ↦
      shown_more c.args.dump.now c.loop-block.block-index c.block-item.result c.loop-block.slots.items c.if-shows_slot.slots.items false
      c.loop-block-test.true c.block-item.is (sym w.if-shows_slot.false ∙ c.shows_slot.ensures) c.loop-block.invariant
      (ap (λ v. v.items) w.slots-is ∙ sym (append-nil c.loop-block.slots.items))
]
