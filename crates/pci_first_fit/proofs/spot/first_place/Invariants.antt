use Rattle.pci_first_fit.proofs.Starts.{IsSearched}
use Rattle.pci_first_fit.proofs.spot.first_place.Given as goal

abbrev pub invariant-loop-index : goal.invariant-loop-index
invariant-loop-index l = IsSearched l.ranges l.taken l.extent l.initial.start l.start l.from l.index
