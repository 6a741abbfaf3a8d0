use Rattle.std.proofs.Common.{◌≡◌}
use Rattle.pci_base.specs.Space.{space_of}
use Rattle.pci_kept.proofs.BusRows.{taken_to}
use Rattle.pci_kept.proofs.taken_on.parts_on.Given as goal

abbrev pub invariant-loop-index : goal.invariant-loop-index
invariant-loop-index g l = l.parts.items ≡ taken_to l.regions l.bus (space_of l.space) l.table l.index
