use Rattle.std.proofs.Common.{◌≡◌, ◌++◌, map, take}
use Rattle.std.specs.List.{filter}
use Rattle.pci_base.specs.Space.{space_of}
use Rattle.pci_kept.specs.Held.{held_range, is_level_on}
use Rattle.pci_kept.proofs.held.add_taken.Given as goal

abbrev pub invariant-loop-one : goal.invariant-loop-one
invariant-loop-one g l = l.taken.items ≡ l.initial.taken.items ++ map held_range (filter (is_level_on l.level (space_of l.space)) (take l.one-index l.held))
