use Rattle.pci_claims.specs.Values.{told_value}
use Rattle.pci_claims.proofs.Awake.{AreOnBelow}
use Rattle.pci_claims.proofs.told.ranges_on.Given as goal

abbrev pub invariant-loop-range : goal.invariant-loop-range
invariant-loop-range g l = AreOnBelow (told_value l.told) l.outline l.range-index l.on.items
