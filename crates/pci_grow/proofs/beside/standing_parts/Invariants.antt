use Rattle.std.proofs.Common.{◌≡◌, take}
use Rattle.std.specs.List.{filter}
use Rattle.pci_kept.specs.Held.{is_region_kept}
use Rattle.pci_grow.proofs.beside.standing_parts.Given as goal

abbrev pub invariant-loop-region : goal.invariant-loop-region
invariant-loop-region g l = l.parts.items ≡ filter (is_region_kept l.standing) (take l.region-index l.regions)
