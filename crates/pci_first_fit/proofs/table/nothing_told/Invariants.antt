use Rattle.std.proofs.Common.{◌≡◌, length}
use Rattle.pci_first_fit.specs.Tables.{AreUntold}
use Rattle.pci_first_fit.proofs.table.nothing_told.Given as goal

abbrev pub invariant-loop : goal.invariant-loop
invariant-loop g l = record { count : length l.table.items ≡ l.counter; none : AreUntold l.table.items }
