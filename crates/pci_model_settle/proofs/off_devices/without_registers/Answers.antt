use Rattle.std.proofs.Common.{List, sym, ◌∙◌, ap, subst}
use Rattle.pci_spec.specs.Text.{Block, IsDump}
use Rattle.pci_model.proofs.Takes.{next_above}
use Rattle.pci_model_settle.proofs.LeftDevices.{next_without, slot_stays, slots_so_far}
use Rattle.pci_model_settle.proofs.off_devices.without_registers.Goals as goal

pub push_next-requires-clause-above : goal.push_next-requires-clause-above
push_next-requires-clause-above g c =
    let slots = c.args.slots.now in
    let blocks = c.blocks-blocks.result.now in
    let is = subst (λ (bs : List Block). IsDump bs) (sym c.blocks-blocks.ensures.value) c.blocks-blocks.ensures.dump in
    let made = c.block_without.ensures slots c.slot_table-among.ensures in
    next_above blocks c.loop-i.without c.loop-i.i c.block_without.result.slot c.index-blocks-i.result (slots_so_far slots c.loop-i.without blocks c.loop-i.i c.loop-i.invariant) is c.loop-i-test.true c.index-blocks-i.is
    (ap (λ (b : Block). b.slot) made ∙ slot_stays slots c.index-blocks-i.result)

pub loop-i-preserved : goal.loop-i-preserved
loop-i-preserved g c =
    let slots = c.args.slots.now in
    let blocks = c.blocks-blocks.result.now in
    let made = c.block_without.ensures slots c.slot_table-among.ensures in
    c.in_ok-push_next.ensures
    ∙ next_without slots c.loop-i.without blocks c.loop-i.i c.index-blocks-i.result c.block_without.result c.loop-i-test.true c.index-blocks-i.is made c.loop-i.invariant
