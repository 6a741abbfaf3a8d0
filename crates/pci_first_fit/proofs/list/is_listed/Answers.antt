use Rattle.std.proofs.Common.{sym, ◌∙◌}
use Rattle.pci_base.specs.Ranges.{decoded_range_of}
use Rattle.pci_first_fit.specs.Lists.{root_range_value, root_range_holds}
use Rattle.pci_first_fit.proofs.Walks.{no_range, any_next, any_here, any_none}
use Rattle.pci_first_fit.proofs.list.is_listed.Goals as goal

pub returns-then-has_range : goal.returns-then-has_range
returns-then-has_range c =
    any_here root_range_value (root_range_holds c.args.bus (decoded_range_of c.args.range)) c.args.list.now c.loop-one.one-index no_range _
    c.loop-one-test.true c.loop-one.invariant (sym c.has_range.ensures ∙ c.if-has_range.true)

pub loop-one-preserved : goal.loop-one-preserved
loop-one-preserved c =
    any_next root_range_value (root_range_holds c.args.bus (decoded_range_of c.args.range)) c.args.list.now c.loop-one.one-index no_range _
    c.loop-one-test.true c.loop-one.invariant (sym c.has_range.ensures ∙ c.if-has_range.false)

pub returns : goal.returns
returns c =
    any_none root_range_value (root_range_holds c.args.bus (decoded_range_of c.args.range)) c.args.list.now c.loop-one.one-index _
    c.loop-one-test.false c.loop-one.invariant
