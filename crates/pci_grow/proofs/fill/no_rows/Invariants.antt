use Rattle.std.proofs.Common.{◌≡◌, [], length}
use Rattle.std.specs.List.{All}
use Rattle.pci_grow.proofs.fill.no_rows.Given as goal

abbrev pub invariant-loop : goal.invariant-loop
invariant-loop g l = record { count : length l.rows.items ≡ l.counter; none : All (λ row. row.items ≡ []) l.rows.items }
