use Rattle.std.proofs.Common.{◌≡◌, length}
use Rattle.pci_settle_places.specs.Placed.{AreAllNone}
use Rattle.pci_settle_places.proofs.place.no_places.Given as goal

abbrev pub invariant-loop : goal.invariant-loop
invariant-loop g l = record { count : length l.table.items ≡ l.counter; none : AreAllNone l.table.items }
