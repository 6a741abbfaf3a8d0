use Rattle.std.proofs.Common.{◌≡◌, drop, map}
use Rattle.std.specs.List.{list_any}
use Rattle.pci_base.specs.Ranges.{decoded_range_of}
use Rattle.pci_first_fit.specs.Lists.{root_range_value, root_range_holds}
use Rattle.pci_first_fit.proofs.list.is_listed.Given as goal

abbrev pub invariant-loop-one : goal.invariant-loop-one
invariant-loop-one l =
    list_any (root_range_holds l.bus (decoded_range_of l.range)) (drop l.one-index (map root_range_value l.list))
    ≡ list_any (root_range_holds l.bus (decoded_range_of l.range)) (map root_range_value l.list)
