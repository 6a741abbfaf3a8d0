use Rattle.std.proofs.Common.{◌≡◌, take}
use Rattle.std.specs.List.{flat_map}
use Rattle.pci_base.specs.Space.{space_of}
use Rattle.pci_tree.specs.Regions.{regions_of}
use Rattle.pci_tree.proofs.outline.regions_among.Given as goal

abbrev pub invariant-loop-function : goal.invariant-loop-function
invariant-loop-function g l = l.regions.items ≡ flat_map (λ r. regions_of r (space_of l.space)) (take l.function-index l.records)
