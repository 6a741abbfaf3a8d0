use Rattle.std.proofs.Common.{◌≡◌, take}
use Rattle.std.specs.List.{filter}
use Rattle.pci_kept.specs.StandingRanges.{is_owned}
use Rattle.pci_kept.proofs.ranges.held_rows.Given as goal

abbrev pub invariant-loop-row : goal.invariant-loop-row
invariant-loop-row g l = l.held.items ≡ filter is_owned (take l.row-index l.rows)
