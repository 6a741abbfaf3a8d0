use Rattle.std.proofs.Common.{◌≡◌, drop, map}
use Rattle.pci_base.specs.Ranges.{decoded_range_of}
use Rattle.pci_first_fit.specs.Lists.{root_range_value}
use Rattle.pci_first_fit.proofs.Walks.{shares_range}
use Rattle.pci_first_fit.proofs.list.shares_from.Given as goal

abbrev pub invariant-loop-k : goal.invariant-loop-k
invariant-loop-k l = shares_range (decoded_range_of l.range) (drop l.k (map root_range_value l.list)) ≡ shares_range (decoded_range_of l.range) (drop l.from (map root_range_value l.list))
