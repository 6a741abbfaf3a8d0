use Rattle.std.proofs.Common.{◌≡◌, map, take}
use Rattle.pci_base.specs.Ranges.{decoded_range_of}
use Rattle.judge_spec.specs.Why.{ranges_for}
use Rattle.pci_claims.specs.Values.{host_value}
use Rattle.pci_why.proofs.host.ranges_for.Given as goal

abbrev pub invariant-loop-range : goal.invariant-loop-range
invariant-loop-range g l = map decoded_range_of l.out.items ≡ ranges_for l.root (map host_value (take l.range-index l.ranges))
