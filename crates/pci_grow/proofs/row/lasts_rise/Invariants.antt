use Rattle.pci_grow.proofs.Rising.{LastsRiseTo}
use Rattle.pci_grow.proofs.row.lasts_rise.Given as goal

abbrev pub invariant-loop-index : goal.invariant-loop-index
invariant-loop-index l = LastsRiseTo l.row l.index
