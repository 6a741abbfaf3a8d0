use Rattle.std.proofs.Common.{◌≡◌, ◌++◌, drop, map}
use Rattle.std.specs.List.{filter}
use Rattle.settle_spec.specs.Lists.{RootRange, is_had_by}
use Rattle.pci_base.specs.Ranges.{decoded_range_of}
use Rattle.pci_first_fit.specs.Lists.{root_range_value}
use Rattle.pci_first_fit.proofs.list.ranges_of.Given as goal

abbrev pub invariant-loop-one : goal.invariant-loop-one
invariant-loop-one g l =
    map decoded_range_of l.ranges.items ++ map (λ (r : RootRange). r.range) (filter (λ (r : RootRange). is_had_by r.root l.bus) (drop l.one-index (map root_range_value l.list)))
    ≡ map (λ (r : RootRange). r.range) (filter (λ (r : RootRange). is_had_by r.root l.bus) (map root_range_value l.list))
