use Rattle.std.proofs.Common.{sym, ◌∙◌}
use Rattle.pci_base.specs.Ranges.{decoded_range_of}
use Rattle.pci_grow.proofs.Found.{no_range, found_here, found_later, found_none}
use Rattle.pci_grow.proofs.room.range_with.Goals as goal

pub returns-then-has_range : goal.returns-then-has_range
returns-then-has_range c =
    sym (c.loop-one.invariant
    ∙ found_here c.args.bus (decoded_range_of c.args.range) c.args.list.now c.loop-one.one-index c.loop-one-test.true no_range (sym c.has_range.ensures ∙ c.if-has_range.true))

pub loop-one-preserved : goal.loop-one-preserved
loop-one-preserved c =
    c.loop-one.invariant
    ∙ found_later c.args.bus (decoded_range_of c.args.range) c.args.list.now c.loop-one.one-index c.loop-one-test.true no_range (sym c.has_range.ensures ∙ c.if-has_range.false)

pub returns : goal.returns
returns c = sym (c.loop-one.invariant ∙ found_none c.args.bus (decoded_range_of c.args.range) c.args.list.now c.loop-one.one-index c.loop-one-test.false)
