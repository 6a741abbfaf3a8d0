use Rattle.std.proofs.Common.{◌≡◌, ◌==◌, ◌&&◌, ◌<◌, List, length, arith, sym, ◌∙◌, ap, subst, map, set, get_or, if◌then◌else◌}
use Rattle.pci_spec.specs.Slot.{IsRising, same_slot}
use Rattle.pci_spec.specs.Text.{Block, slots_of}
use Rattle.judge_spec.specs.Windows.{with_number}
use Rattle.pci_plan.specs.Writes.{write_value}
use Rattle.pci_model_settle.specs.Listed.{block_after}
use Rattle.pci_model_settle.proofs.SlotBlocks.{none_written, one_written, by_numbers}
use Rattle.pci_model_settle.proofs.listed.put_write.Goals as goal

pub returns-then-index-len : goal.returns-then-index-len
returns-then-index-len g c =
    let is = c.as_slice.ensures.value in
    let w = write_value c.args.write in
    let end = c.if-index-len.true in
    sym (subst (λ (bs : List Block). map (block_after w) bs ≡ bs) is
    (none_written w c.as_slice.result.now (subst (λ (bs : List Block). IsRising (slots_of bs)) (sym is) c.requires) c.first_not_below-index.result c.first_not_below-index.ensures.before c.first_not_below-index.ensures.after
    (let long = ap length is in omega (arith, end, long, c.as_slice.ensures.len))))

pub returns-then-eq : goal.returns-then-eq
returns-then-eq g c =
    let is = c.as_slice.ensures.value in
    let w = write_value c.args.write in
    let n = c.first_not_below-index.result in
    let items = c.args.blocks.now.items in
    let b : Block = c.index_mut-block.result.now in
    let bound = c.first_not_below-index.ensures.bound in
    let other = c.if-index-len.false in
    let long = ap length is in
    let within : n < length c.as_slice.result.now = omega (arith, bound, other, long, c.as_slice.ensures.len) in
    let there : b ≡ get_or c.as_slice.result.now n b = c.index_mut-block.ensures.value ∙ ap (λ bs. get_or bs n b) (sym is) in
    let same : same_slot b.slot w.slot ≡ c.eq.result =
    by_numbers b.slot w.slot
    ∙ sym (c.eq.ensures ∙ ap (λ (x : Block). x.slot.bus == w.slot.bus && (x.slot.device == w.slot.device && x.slot.function == w.slot.function)) c.block.view_is) in
    let image = c.put_bytes.ensures ∙ ap (λ (x : Block). with_number w.width w.offset w.value x.image) c.block.view_is in
    let put : record { slot = b.slot; title = b.title; image = with_number w.width w.offset w.value b.image } ≡ block_after w b = sym (ap (λ s. if s then record b { image = with_number w.width w.offset w.value b.image } else b) (same ∙ c.if-eq.true)) in
    ap (set items n) ((λ i. record { slot = (c.block.view_is i).slot; title = (c.block.view_is i).title; image = image i }) ∙ put)
    ∙ sym (subst (λ (bs : List Block). map (block_after w) bs ≡ set bs n (block_after w b)) is
    (one_written w c.as_slice.result.now (subst (λ (bs : List Block). IsRising (slots_of bs)) (sym is) c.requires) n c.first_not_below-index.ensures.before c.first_not_below-index.ensures.after b within there))

pub returns-else-eq : goal.returns-else-eq
returns-else-eq g c =
    let is = c.as_slice.ensures.value in
    let w = write_value c.args.write in
    let n = c.first_not_below-index.result in
    let items = c.args.blocks.now.items in
    let b : Block = c.index_mut-block.result.now in
    let bound = c.first_not_below-index.ensures.bound in
    let other = c.if-index-len.false in
    let long = ap length is in
    let within : n < length c.as_slice.result.now = omega (arith, bound, other, long, c.as_slice.ensures.len) in
    let there : b ≡ get_or c.as_slice.result.now n b = c.index_mut-block.ensures.value ∙ ap (λ bs. get_or bs n b) (sym is) in
    let same : same_slot b.slot w.slot ≡ c.eq.result =
    by_numbers b.slot w.slot
    ∙ sym (c.eq.ensures ∙ ap (λ (x : Block). x.slot.bus == w.slot.bus && (x.slot.device == w.slot.device && x.slot.function == w.slot.function)) c.block.view_is) in
    let left : block_after w b ≡ b = ap (λ s. if s then record b { image = with_number w.width w.offset w.value b.image } else b) (same ∙ c.if-eq.false) in
    sym (subst (λ (bs : List Block). map (block_after w) bs ≡ set bs n (block_after w b)) is
    (one_written w c.as_slice.result.now (subst (λ (bs : List Block). IsRising (slots_of bs)) (sym is) c.requires) n c.first_not_below-index.ensures.before c.first_not_below-index.ensures.after b within there)
    ∙ ap (set items n) left)
