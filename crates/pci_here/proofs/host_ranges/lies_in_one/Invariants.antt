use Rattle.std.proofs.Common.{◌≡◌, take, false}
use Rattle.std.specs.List.{list_any}
use Rattle.pci_here.specs.HostRanges.{lies_within_same_bus}
use Rattle.pci_here.proofs.host_ranges.lies_in_one.Given as goal

abbrev pub invariant-loop-other : goal.invariant-loop-other
invariant-loop-other l = list_any (lies_within_same_bus l.range) (take l.other-index l.ranges) ≡ false
