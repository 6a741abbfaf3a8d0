use Rattle.std.proofs.Common.{◌≡◌, [], drop}
use Rattle.pci_here.specs.HostRanges.{outer_ranges}
use Rattle.pci_here.proofs.host_ranges.outermost.Given as goal

abbrev pub invariant-loop-range : goal.invariant-loop-range
invariant-loop-range l = outer_ranges [] l.ranges ≡ outer_ranges l.list.items (drop l.range-index l.ranges)
