use Rattle.std.proofs.Common.{◌≡◌, ◌++◌, map, take}
use Rattle.std.specs.List.{filter}
use Rattle.pci_kept.specs.Held.{is_region_kept}
use Rattle.pci_kept.specs.StandingRanges.{part_row}
use Rattle.pci_kept.proofs.ranges.add_parts.Given as goal

abbrev pub invariant-loop-region : goal.invariant-loop-region
invariant-loop-region g l = l.rows.items ≡ l.fn.rows.items ++ map part_row (filter (is_region_kept l.table) (take l.region-index l.regions))
