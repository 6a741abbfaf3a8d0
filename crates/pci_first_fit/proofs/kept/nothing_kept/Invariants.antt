use Rattle.std.proofs.Common.{◌≡◌, length}
use Rattle.pci_first_fit.specs.Kept.{AreNone}
use Rattle.pci_first_fit.proofs.kept.nothing_kept.Given as goal

abbrev pub invariant-loop : goal.invariant-loop
invariant-loop g l = record { count : length l.table.items ≡ l.counter; none : AreNone l.table.items }
