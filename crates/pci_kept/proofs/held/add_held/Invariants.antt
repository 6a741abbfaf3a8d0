use Rattle.std.proofs.Common.{◌≡◌, ◌++◌, map, take}
use Rattle.std.specs.List.{filter}
use Rattle.pci_kept.specs.Held.{is_region_kept, held_of}
use Rattle.pci_kept.proofs.held.add_held.Given as goal

abbrev pub invariant-loop-region : goal.invariant-loop-region
invariant-loop-region g l = l.held.items ≡ l.initial.held.items ++ map (held_of l.grown) (filter (is_region_kept l.kept) (take l.region-index l.regions))
