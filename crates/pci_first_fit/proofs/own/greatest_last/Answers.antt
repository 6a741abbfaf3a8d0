use Rattle.std.proofs.Common.{◌≡◌, ◌+◌, max, map, drop, sym, subst}
use Rattle.plan_spec.specs.Plan.{greatest}
use Rattle.pci_first_fit.specs.Lists.{root_range_value}
use Rattle.pci_first_fit.proofs.Walks.{no_range}
use Rattle.pci_first_fit.proofs.OwnItems.{lasts, greatest_next, greatest_all}
use Rattle.pci_first_fit.proofs.own.greatest_last.Goals as goal

pub loop-one-preserved : goal.loop-one-preserved
loop-one-preserved c =
    subst (λ a. max a (greatest (lasts (drop (c.loop-one.one-index + 1) (map root_range_value c.args.list.now)))) ≡ greatest (lasts (map root_range_value c.args.list.now)))
    (sym c.later-last.ensures)
    (greatest_next c.args.list.now c.loop-one.one-index no_range c.loop-one.last _ c.loop-one-test.true c.loop-one.invariant)

pub returns : goal.returns
returns c = greatest_all c.args.list.now c.loop-one.one-index c.loop-one.last _ c.loop-one-test.false c.loop-one.invariant
