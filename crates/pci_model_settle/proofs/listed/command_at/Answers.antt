use Rattle.std.proofs.Common.{◌≡◌, ◌==◌, ◌&&◌, ◌<◌, length, arith, sym, ◌∙◌, ap, if◌then◌else◌}
use Rattle.pci_spec.specs.Header.{command}
use Rattle.pci_spec.specs.Slot.{same_slot}
use Rattle.pci_spec.specs.Text.{Block}
use Rattle.pci_model_settle.proofs.SlotBlocks.{command_none, command_there, by_numbers}
use Rattle.pci_model_settle.proofs.listed.command_at.Goals as goal

pub returns-then-index-blocks : goal.returns-then-index-blocks
returns-then-index-blocks c =
    sym (command_none c.args.slot c.args.blocks.now c.requires.rising c.first_not_below-index.result c.first_not_below-index.ensures.before c.first_not_below-index.ensures.after
    (let end = c.if-index-blocks.true in omega (arith, end)))

pub returns-then-eq : goal.returns-then-eq
returns-then-eq c =
    let b : Block = c.index-blocks-index.result in
    let slot = c.args.slot in
    let bound = c.first_not_below-index.ensures.bound in
    let other = c.if-index-blocks.false in
    let within : c.first_not_below-index.result < length c.args.blocks.now = omega (arith, bound, other) in
    let at : same_slot b.slot slot ≡ c.eq.result =
    by_numbers b.slot slot
    ∙ sym (c.eq.ensures ∙ ap (λ (x : Block). x.slot.bus == slot.bus && (x.slot.device == slot.device && x.slot.function == slot.function)) c.block.view_is) in
    c.u16.ensures ∙ ap (λ (x : Block). command x.image) c.block.view_is
    ∙ sym (command_there slot c.args.blocks.now c.requires.rising c.first_not_below-index.result c.first_not_below-index.ensures.before c.first_not_below-index.ensures.after b within c.index-blocks-index.is
    ∙ ap (λ same. if same then command b.image else 0) (at ∙ c.if-eq.true))

pub returns-else-eq : goal.returns-else-eq
returns-else-eq c =
    let b : Block = c.index-blocks-index.result in
    let slot = c.args.slot in
    let bound = c.first_not_below-index.ensures.bound in
    let other = c.if-index-blocks.false in
    let within : c.first_not_below-index.result < length c.args.blocks.now = omega (arith, bound, other) in
    let at : same_slot b.slot slot ≡ c.eq.result =
    by_numbers b.slot slot
    ∙ sym (c.eq.ensures ∙ ap (λ (x : Block). x.slot.bus == slot.bus && (x.slot.device == slot.device && x.slot.function == slot.function)) c.block.view_is) in
    sym (command_there slot c.args.blocks.now c.requires.rising c.first_not_below-index.result c.first_not_below-index.ensures.before c.first_not_below-index.ensures.after b within c.index-blocks-index.is
    ∙ ap (λ same. if same then command b.image else 0) (at ∙ c.if-eq.false))
