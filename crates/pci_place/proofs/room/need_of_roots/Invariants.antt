use Rattle.pci_place.proofs.RootNeeds.{IsSumBelow}
use Rattle.pci_place.proofs.room.need_of_roots.Given as goal

abbrev pub invariant-loop-bus : goal.invariant-loop-bus
invariant-loop-bus l = IsSumBelow l.roots.flags l.needs.of_bus l.bus l.sum
