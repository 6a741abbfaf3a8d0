use Rattle.pci_first_fit.proofs.Spots.{IsAlong}
use Rattle.pci_first_fit.proofs.spot.next_spot.Given as goal

abbrev pub invariant-loop-index : goal.invariant-loop-index
invariant-loop-index l = IsAlong l.taken l.low l.extent l.at l.index
