use Rattle.std.proofs.Common.{◌≡◌, drop, map}
use Rattle.pci_base.specs.Ranges.{decoded_range_of}
use Rattle.pci_first_fit.specs.Lists.{root_range_value}
use Rattle.pci_first_fit.specs.Spots.{extent_value}
use Rattle.pci_grow.proofs.Walks.{place_among}
use Rattle.pci_grow.proofs.list.first_place.Given as goal

abbrev pub invariant-loop-one : goal.invariant-loop-one
invariant-loop-one l =
    place_among l.bus (map decoded_range_of l.taken) (extent_value l.extent) (drop l.one-index (map root_range_value l.list))
    ≡ place_among l.bus (map decoded_range_of l.taken) (extent_value l.extent) (map root_range_value l.list)
