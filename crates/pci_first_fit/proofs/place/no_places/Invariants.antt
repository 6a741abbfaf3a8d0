use Rattle.std.proofs.Common.{◌≡◌, length}
use Rattle.pci_first_fit.specs.PlaceTables.{ArePlaceless}
use Rattle.pci_first_fit.proofs.place.no_places.Given as goal

abbrev pub invariant-loop : goal.invariant-loop
invariant-loop g l = record { count : length l.table.items ≡ l.counter; none : ArePlaceless l.table.items }
