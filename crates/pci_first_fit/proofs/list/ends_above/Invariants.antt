use Rattle.std.proofs.Common.{◌≡◌, drop, map}
use Rattle.settle_spec.specs.Lists.{end_above}
use Rattle.pci_first_fit.specs.Lists.{root_range_value}
use Rattle.pci_first_fit.proofs.list.ends_above.Given as goal

abbrev pub invariant-loop-one : goal.invariant-loop-one
invariant-loop-one l = end_above l.last (drop l.one-index (map root_range_value l.list)) ≡ end_above l.last (map root_range_value l.list)
