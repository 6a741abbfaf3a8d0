use Rattle.std.proofs.Common.{length}
use Rattle.pci_settle_places.proofs.Stretching.{AreStretchesTo}
use Rattle.pci_settle_places.proofs.stretch.stretches.Given as goal

abbrev pub invariant-loop-rest : goal.invariant-loop-rest
invariant-loop-rest g l = AreStretchesTo l.lines l.rest l.all.items

abbrev pub decreases-loop-rest : goal.decreases-loop-rest
decreases-loop-rest g l = length l.rest
