use Rattle.std.proofs.Common.{map, subst, sym}
use Rattle.pci_plan.specs.Writes.{write_value}
use Rattle.pci_kept.specs.Flags.{AreFlags}
use Rattle.pci_script.proofs.Scripts.{block_more}
use Rattle.pci_script.proofs.compared.compared_of.Goals as goal

pub loop-block-preserved : goal.loop-block-preserved
loop-block-preserved g c =
    let slots = c.in_ok-slots.slots.items in
    let flags = c.as_slice-in-loop-block.result.now in
    let made : AreFlags slots c.in_ok-flags.flags.items = subst (λ s. AreFlags s c.in_ok-flags.flags.items) c.as_slice.ensures.value c.in_ok-flags.ensures in
    let are : AreFlags slots flags = subst (AreFlags slots) (sym c.as_slice-in-loop-block.ensures.value) made in
    block_more (map write_value c.args.writes.now) slots flags c.args.dump.now c.loop-block.block-index c.block-item.result (map write_value c.loop-block.all.items)
    (map write_value c.add_flagged.new.all.items) c.loop-block-test.true c.block-item.is c.in_ok-slots.ensures are c.in_ok-add_flagged.ensures.slot c.loop-block.invariant
    c.in_ok-add_flagged.ensures.added
