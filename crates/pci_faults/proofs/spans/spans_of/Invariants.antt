use Rattle.std.proofs.Common.{◌≡◌, map, take}
use Rattle.pci_faults.specs.Spans.{region_span}
use Rattle.pci_faults.proofs.spans.spans_of.Given as goal

abbrev pub invariant-loop-region : goal.invariant-loop-region
invariant-loop-region g l = l.out.items ≡ map region_span (take l.region-index l.regions)
