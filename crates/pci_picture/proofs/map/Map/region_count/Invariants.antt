use Rattle.std.proofs.Common.{◌≡◌, ◌≤◌, take}
use Rattle.pci_picture.specs.Counts.{count_of_regions}
use Rattle.pci_picture.specs.Maps.{kept_regions}
use Rattle.pci_picture.proofs.map.Map.region_count.Given as goal

abbrev pub invariant-loop-line : goal.invariant-loop-line
invariant-loop-line g l = record {
  low : l.count ≤ l.line-index;
  counted : l.count ≡ count_of_regions (take l.line-index (kept_regions l.self));
}
