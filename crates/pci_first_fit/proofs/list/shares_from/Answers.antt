use Rattle.std.proofs.Common.{sym, ap, ◌∙◌, not}
use Rattle.settle_spec.specs.Lists.{RootRange}
use Rattle.settle_spec.specs.FirstPlace.{ranges_are_apart}
use Rattle.pci_base.specs.Ranges.{decoded_range_of}
use Rattle.pci_first_fit.specs.Lists.{root_range_value}
use Rattle.pci_first_fit.proofs.Walks.{no_range, any_next, any_here, any_none}
use Rattle.pci_first_fit.proofs.list.shares_from.Goals as goal

pub returns-then-not-are_apart : goal.returns-then-not-are_apart
returns-then-not-are_apart c =
    any_here root_range_value (λ (q : RootRange). not (ranges_are_apart (decoded_range_of c.args.range) q.range)) c.args.list.now c.loop-k.k no_range _
    c.loop-k-test.true c.loop-k.invariant (ap not (sym c.are_apart.ensures ∙ c.if-not-are_apart.true))

pub loop-k-preserved : goal.loop-k-preserved
loop-k-preserved c =
    any_next root_range_value (λ (q : RootRange). not (ranges_are_apart (decoded_range_of c.args.range) q.range)) c.args.list.now c.loop-k.k no_range _
    c.loop-k-test.true c.loop-k.invariant (ap not (sym c.are_apart.ensures ∙ c.if-not-are_apart.false))

pub returns : goal.returns
returns c =
    any_none root_range_value (λ (q : RootRange). not (ranges_are_apart (decoded_range_of c.args.range) q.range)) c.args.list.now c.loop-k.k _ c.loop-k-test.false c.loop-k.invariant
