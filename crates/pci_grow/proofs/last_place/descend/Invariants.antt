use Rattle.pci_grow.specs.LastPlaces.{IsDescended}
use Rattle.pci_grow.proofs.last_place.descend.Given as goal

abbrev pub invariant-loop-above : goal.invariant-loop-above
invariant-loop-above l = IsDescended l.fn.range l.taken l.extent l.at l.above
