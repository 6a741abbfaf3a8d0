use Rattle.std.proofs.Common.{arith, ◌∙◌, ◌++◌, ap, ℕ, List, Option}
use Rattle.pci_spec.specs.Slot.{Slot}
use Rattle.pci_spec.specs.Text.{byte_line, slot_text, title_text}
use Rattle.pci_dump.proofs.Put.{rows_put, block_put}
use Rattle.pci_dump.proofs.block_text.put_block.Goals as goal

pub loop-row-preserved : goal.loop-row-preserved
loop-row-preserved c = record {
  text = rows_put c.args.block.now.image c.push.new.self.items c.loop-row.text.items c.put_row.new.text.items c.loop-row.row c.loop-row.invariant.text
      (c.put_row.ensures.text ∙ ap (λ (image : List ℕ). c.loop-row.text.items ++ byte_line image c.loop-row.row) (ap (λ b. b.image) c.block.view_is));
  len = omega arith;
}

pub returns : goal.returns
returns c =
    let view = c.block.view_is in
    block_put c.args.block.now c.args.text.now.items _ _ _ _ _ c.loop-row.row c.requires
    (c.put_slot.ensures.text ∙ ap (λ (s : Slot). c.args.text.now.items ++ slot_text s) (ap (λ b. b.slot) view))
    (c.put_title.ensures.text ∙ ap (λ (t : Option (List ℕ)). c.put_slot.new.text.items ++ title_text t) (ap (λ b. b.title) view))
    c.push.ensures.items (omega arith) c.loop-row.invariant.text c.push-2.ensures.items
