use Rattle.std.proofs.Common.{true, ◌+◌, set, sym, ◌∙◌, subst}
use Rattle.std.proofs.lemmas.List.{length-set}
use Rattle.pci_kept.proofs.Flags.{Told, told_more}
use Rattle.pci_kept.proofs.fixed.flag_all.Goals as goal

pub loop-slot-preserved : goal.loop-slot-preserved
loop-slot-preserved c = record {
  size = length-set c.loop-slot.flags c.from.result true ∙ c.loop-slot.invariant.size;
  told = subst (λ n. Told c.args.slots.now c.args.flags.now (c.loop-slot.slot-index + 1) (set c.loop-slot.flags n true)) (sym (c.from.ensures ∙ c.number.ensures.number))
      (told_more c.args.slots.now c.args.flags.now c.loop-slot.flags c.loop-slot.invariant.size c.loop-slot.slot-index c.loop-slot-test.true c.slot-item.result c.slot-item.is c.number.ensures.slot
      c.loop-slot.invariant.told);
}
