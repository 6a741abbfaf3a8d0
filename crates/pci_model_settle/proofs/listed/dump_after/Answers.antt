use Rattle.std.proofs.Common.{◌≡◌, ◌<◌, ◌+◌, ◌∷◌, length, arith, sym, ◌∙◌, ap, map, take, drop, get_or}
use Rattle.std.proofs.lemmas.List.{get_or_default, length-map}
use Rattle.pci_spec.specs.Text.{Block, slots_of}
use Rattle.pci_model.proofs.Takes.{next_above}
use Rattle.pci_plan.specs.Writes.{write_value}
use Rattle.pci_plan.specs.declared.write.Write.{Write}
use Rattle.pci_model_settle.specs.Listed.{blocks_after}
use Rattle.pci_model_settle.proofs.SlotBlocks.{slots_stay}
use Rattle.pci_model_settle.proofs.Puts.{drop_here, take_slots, slot_at}
use Rattle.pci_model_settle.proofs.listed.dump_after.Goals as goal

pub loop-write-preserved : goal.loop-write-preserved
loop-write-preserved g c =
    let w : Write = c.write-item.result in
    let n = c.loop-write.write-index in
    let more = c.loop-write-test.true in
    let next : drop n c.args.writes.now ≡ w ∷ drop (n + 1) c.args.writes.now = drop_here c.args.writes.now n w more c.write-item.is in
    record {
      left = ap (λ bs. blocks_after bs (map write_value (drop (n + 1) c.args.writes.now))) c.put_write.ensures
          ∙ sym (ap (λ ws. blocks_after c.loop-write.blocks.items (map write_value ws)) next) ∙ c.loop-write.invariant.left;
      slots = ap slots_of c.put_write.ensures ∙ slots_stay (write_value w) c.loop-write.blocks.items ∙ c.loop-write.invariant.slots;
    }

pub push_next-requires-clause-above : goal.push_next-requires-clause-above
push_next-requires-clause-above g c =
    let items = c.loop-write.blocks.items in
    let dump = c.args.dump.now in
    let i = c.loop-i.i in
    let slots = c.loop-write.invariant.slots in
    let more = c.loop-i-test.true in
    let count = length-map items (λ (b : Block). b.slot) in
    let listed = length-map dump (λ (b : Block). b.slot) in
    let same = ap length slots in
    let end = c.len-i-end.ensures in
    let low : i < length items = omega (arith, more, end) in
    let inside : i < length dump = omega (arith, low, count, listed, same) in
    let b : Block = get_or dump i c.index.result.now in
    next_above dump c.loop-i.after i c.copy-in-loop-i.result.slot b (ap slots_of c.loop-i.invariant ∙ take_slots items i ∙ ap (take i) slots) c.blocks-block-items.ensures.dump inside (sym (get_or_default dump i b c.index.result.now inside))
    (ap (λ (x : Block). x.slot) c.copy-in-loop-i.ensures ∙ slot_at items dump i c.index.result.now low inside c.index.ensures slots)
