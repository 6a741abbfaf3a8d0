use Rattle.std.proofs.Common.{◌≡◌, ◌<◌, ◌&&◌, length, arith, sym, ◌∙◌, ap}
use Rattle.std.specs.Prelude.{◌==◌}
use Rattle.pci_spec.specs.Header.{command}
use Rattle.pci_spec.specs.Slot.{same_slot}
use Rattle.pci_spec.specs.Text.{Block}
use Rattle.pci_base.specs.Space.{space_of, is_on}
use Rattle.pci_settle.proofs.BlocksAt.{none_at, at_block, by_numbers}
use Rattle.pci_settle.proofs.told.is_on_in.Goals as goal

pub returns-then-index-blocks : goal.returns-then-index-blocks
returns-then-index-blocks c =
    sym (none_at c.args.slot (λ b. is_on (command b.image) (space_of c.args.space)) c.args.blocks.now c.requires c.first_not_below-index.result c.first_not_below-index.ensures.before c.first_not_below-index.ensures.after
    (let end = c.if-index-blocks.true in omega (arith, end)))

pub returns-then-eq : goal.returns-then-eq
returns-then-eq c =
    let b : Block = c.index-blocks-index.result in
    let slot = c.args.slot in
    let space = space_of c.args.space in
    let bound = c.first_not_below-index.ensures.bound in
    let other = c.if-index-blocks.false in
    let within : c.first_not_below-index.result < length c.args.blocks.now = omega (arith, bound, other) in
    let at : same_slot b.slot slot ≡ c.eq.result =
    by_numbers slot (λ x. is_on (command x.image) space) b
    ∙ sym (c.eq.ensures ∙ ap (λ (x : Block). x.slot.bus == slot.bus && (x.slot.device == slot.device && x.slot.function == slot.function)) c.block.view_is) in
    c.is_on.ensures ∙ ap (λ n. is_on n space) c.u16.ensures ∙ ap (λ (x : Block). is_on (command x.image) space) c.block.view_is
    ∙ sym (at_block slot (λ x. is_on (command x.image) space) c.args.blocks.now c.requires c.first_not_below-index.result c.first_not_below-index.ensures.before c.first_not_below-index.ensures.after b within c.index-blocks-index.is
    ∙ ap (λ same. same && is_on (command b.image) space) (at ∙ c.if-eq.true))

pub returns-else-eq : goal.returns-else-eq
returns-else-eq c =
    let b : Block = c.index-blocks-index.result in
    let slot = c.args.slot in
    let space = space_of c.args.space in
    let bound = c.first_not_below-index.ensures.bound in
    let other = c.if-index-blocks.false in
    let within : c.first_not_below-index.result < length c.args.blocks.now = omega (arith, bound, other) in
    let at : same_slot b.slot slot ≡ c.eq.result =
    by_numbers slot (λ x. is_on (command x.image) space) b
    ∙ sym (c.eq.ensures ∙ ap (λ (x : Block). x.slot.bus == slot.bus && (x.slot.device == slot.device && x.slot.function == slot.function)) c.block.view_is) in
    c.if-eq.false
    ∙ sym (at_block slot (λ x. is_on (command x.image) space) c.args.blocks.now c.requires c.first_not_below-index.result c.first_not_below-index.ensures.before c.first_not_below-index.ensures.after b within c.index-blocks-index.is
    ∙ ap (λ same. same && is_on (command b.image) space) (at ∙ c.if-eq.false))
