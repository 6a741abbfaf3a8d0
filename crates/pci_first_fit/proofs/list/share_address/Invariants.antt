use Rattle.std.proofs.Common.{◌≡◌, drop, map}
use Rattle.settle_spec.specs.Lists.{share_address}
use Rattle.pci_first_fit.specs.Lists.{root_range_value}
use Rattle.pci_first_fit.proofs.list.share_address.Given as goal

abbrev pub invariant-loop-k : goal.invariant-loop-k
invariant-loop-k l = share_address (drop l.k (map root_range_value l.list)) ≡ share_address (map root_range_value l.list)
