use Rattle.std.proofs.Common.{◌≡◌, max, map, drop}
use Rattle.plan_spec.specs.Plan.{greatest}
use Rattle.settle_spec.specs.Lists.{RootRange}
use Rattle.pci_first_fit.specs.Lists.{root_range_value}
use Rattle.pci_first_fit.proofs.own.greatest_last.Given as goal

abbrev pub invariant-loop-one : goal.invariant-loop-one
invariant-loop-one l =
    max l.last (greatest (map (λ (r : RootRange). r.range.last) (drop l.one-index (map root_range_value l.list))))
    ≡ greatest (map (λ (r : RootRange). r.range.last) (map root_range_value l.list))
