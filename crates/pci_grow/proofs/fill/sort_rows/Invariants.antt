use Rattle.std.proofs.Common.{map}
use Rattle.pci_grow.proofs.Filled.{AreSortedTo}
use Rattle.pci_grow.proofs.fill.sort_rows.Given as goal

abbrev pub invariant-loop-index : goal.invariant-loop-index
invariant-loop-index g l = AreSortedTo (map (λ v. v.items) l.initial.rows) (map (λ v. v.items) l.rows) l.index
