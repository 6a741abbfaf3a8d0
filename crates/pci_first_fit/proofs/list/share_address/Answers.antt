use Rattle.std.proofs.Common.{sym, ◌∙◌}
use Rattle.pci_first_fit.specs.Lists.{root_range_value}
use Rattle.pci_first_fit.proofs.Walks.{no_range, two_next, two_here, two_none}
use Rattle.pci_first_fit.proofs.list.share_address.Goals as goal

pub returns-then-shares_from : goal.returns-then-shares_from
returns-then-shares_from c =
    two_here root_range_value c.args.list.now c.loop-k.k no_range _ c.loop-k-test.true c.loop-k.invariant (sym c.shares_from.ensures ∙ c.if-shares_from.true)

pub loop-k-preserved : goal.loop-k-preserved
loop-k-preserved c =
    two_next root_range_value c.args.list.now c.loop-k.k no_range _ c.loop-k-test.true c.loop-k.invariant (sym c.shares_from.ensures ∙ c.if-shares_from.false)

pub returns : goal.returns
returns c = two_none root_range_value c.args.list.now c.loop-k.k _ c.loop-k-test.false c.loop-k.invariant
