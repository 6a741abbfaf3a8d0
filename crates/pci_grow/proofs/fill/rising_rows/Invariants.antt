use Rattle.std.proofs.Common.{map}
use Rattle.pci_grow.proofs.Flags.{AreFlagsTo}
use Rattle.pci_grow.proofs.fill.rising_rows.Given as goal

abbrev pub invariant-loop-row : goal.invariant-loop-row
invariant-loop-row g l = AreFlagsTo (map (λ v. v.items) l.rows) l.flags.items l.row-index
