use Rattle.pci_settle_places.proofs.Stretching.{AreFoundTo}
use Rattle.pci_settle_places.proofs.stretch.sought_rows.Given as goal

abbrev pub invariant-loop-stretch : goal.invariant-loop-stretch
invariant-loop-stretch g l = AreFoundTo l.sought l.stretches l.stretch-index l.found.items
