use Rattle.std.proofs.Common.{◌∙◌, ◌<◌, arith, length}
use Rattle.pci_dump.proofs.NamedBlocks.{none_at, at_block, named_view, other_view}
use Rattle.pci_dump.proofs.mark.is_size_assumed.Goals as goal

pub returns-then-index-blocks : goal.returns-then-index-blocks
returns-then-index-blocks c =
    none_at c.args.slot c.args.register c.args.blocks.now c.requires c.first_not_below-index.result c.first_not_below-index.ensures.before c.first_not_below-index.ensures.after
    (let end = c.if-index-blocks.true in omega (arith, end))

pub returns-then-eq : goal.returns-then-eq
returns-then-eq c =
    let b = c.index-blocks-index.result in
    let bound = c.first_not_below-index.ensures.bound in
    let other = c.if-index-blocks.false in
    let within : c.first_not_below-index.result < length c.args.blocks.now = omega (arith, bound, other) in
    c.is_named.ensures ∙ named_view c.args.slot c.args.register _ b c.eq.result c.block.view_is c.eq.ensures c.if-eq.true
    ∙ at_block c.args.slot c.args.register c.args.blocks.now c.requires c.first_not_below-index.result c.first_not_below-index.ensures.before c.first_not_below-index.ensures.after b within c.index-blocks-index.is

pub returns-else-eq : goal.returns-else-eq
returns-else-eq c =
    let b = c.index-blocks-index.result in
    let bound = c.first_not_below-index.ensures.bound in
    let other = c.if-index-blocks.false in
    let within : c.first_not_below-index.result < length c.args.blocks.now = omega (arith, bound, other) in
    other_view c.args.slot c.args.register _ b c.eq.result c.block.view_is c.eq.ensures c.if-eq.false
    ∙ at_block c.args.slot c.args.register c.args.blocks.now c.requires c.first_not_below-index.result c.first_not_below-index.ensures.before c.first_not_below-index.ensures.after b within c.index-blocks-index.is
