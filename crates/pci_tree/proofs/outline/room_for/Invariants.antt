use Rattle.std.proofs.Common.{◌≡◌, ◌-◌, ◌^◌, take, length, min}
use Rattle.std.specs.List.{flat_map}
use Rattle.pci_base.specs.Space.{space_of}
use Rattle.pci_tree.specs.Regions.{regions_of}
use Rattle.pci_tree.proofs.outline.room_for.Given as goal

abbrev pub invariant-loop-function : goal.invariant-loop-function
invariant-loop-function l = l.room ≡ min (length (flat_map (λ r. regions_of r (space_of l.space)) (take l.function-index l.records))) (2 ^ 64 - 1)
