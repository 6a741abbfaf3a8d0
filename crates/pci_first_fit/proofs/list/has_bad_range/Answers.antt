use Rattle.std.proofs.Common.{◌||◌, sym, ◌∙◌}
use Rattle.plan_spec.specs.Plan.{is_backward}
use Rattle.settle_spec.specs.Lists.{RootRange, has_no_root}
use Rattle.pci_tree.specs.Roots.{buses_of}
use Rattle.pci_first_fit.specs.Lists.{root_range_value}
use Rattle.pci_first_fit.proofs.Walks.{no_range, any_next, any_here, any_none}
use Rattle.pci_first_fit.proofs.list.has_bad_range.Goals as goal

pub returns-then-is_bad_range : goal.returns-then-is_bad_range
returns-then-is_bad_range c =
    any_here root_range_value (λ (r : RootRange). is_backward r.range || has_no_root (buses_of c.args.roots.now) r.root) c.args.list.now c.loop-one.one-index no_range _
    c.loop-one-test.true c.loop-one.invariant (sym c.is_bad_range.ensures ∙ c.if-is_bad_range.true)

pub loop-one-preserved : goal.loop-one-preserved
loop-one-preserved c =
    any_next root_range_value (λ (r : RootRange). is_backward r.range || has_no_root (buses_of c.args.roots.now) r.root) c.args.list.now c.loop-one.one-index no_range _
    c.loop-one-test.true c.loop-one.invariant (sym c.is_bad_range.ensures ∙ c.if-is_bad_range.false)

pub returns : goal.returns
returns c =
    any_none root_range_value (λ (r : RootRange). is_backward r.range || has_no_root (buses_of c.args.roots.now) r.root) c.args.list.now c.loop-one.one-index _
    c.loop-one-test.false c.loop-one.invariant
