use Rattle.std.proofs.Common.{◌≡◌, take}
use Rattle.pci_grow.specs.There.{holding, placed_ranges}
use Rattle.pci_grow.proofs.there.held_with_places.Given as goal

abbrev pub invariant-loop-index : goal.invariant-loop-index
invariant-loop-index l = l.all ≡ holding l.fn.held (placed_ranges (take l.index l.items) (take l.index l.places))
