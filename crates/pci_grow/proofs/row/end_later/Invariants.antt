use Rattle.pci_grow.proofs.Ended.{IsPast}
use Rattle.pci_grow.proofs.row.end_later.Given as goal

abbrev pub invariant-loop-index : goal.invariant-loop-index
invariant-loop-index l = IsPast l.row l.initial.row l.window l.index
