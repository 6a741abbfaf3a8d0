use Rattle.std.proofs.Common.{nat_lt}
use Rattle.std.proofs.lemmas.Bool.{lt-ltb, le-ltb}
use Rattle.settle_spec.specs.Lists.{RootRange}
use Rattle.pci_first_fit.specs.Lists.{root_range_value}
use Rattle.pci_first_fit.proofs.Walks.{no_range, any_next, any_here, any_none}
use Rattle.pci_first_fit.proofs.list.ends_above.Goals as goal

pub returns-then-last-one : goal.returns-then-last-one
returns-then-last-one c =
    any_here root_range_value (λ (r : RootRange). nat_lt c.args.last r.range.last) c.args.list.now c.loop-one.one-index no_range _
    c.loop-one-test.true c.loop-one.invariant (lt-ltb _ _ c.if-last-one.true)

pub loop-one-preserved : goal.loop-one-preserved
loop-one-preserved c =
    any_next root_range_value (λ (r : RootRange). nat_lt c.args.last r.range.last) c.args.list.now c.loop-one.one-index no_range _
    c.loop-one-test.true c.loop-one.invariant (le-ltb _ _ c.if-last-one.false)

pub returns : goal.returns
returns c =
    any_none root_range_value (λ (r : RootRange). nat_lt c.args.last r.range.last) c.args.list.now c.loop-one.one-index _ c.loop-one-test.false c.loop-one.invariant
