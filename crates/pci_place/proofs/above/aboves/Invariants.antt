use Rattle.pci_place.specs.Above.{system_in}
use Rattle.pci_place.proofs.Aboves.{AreAbovesTo}
use Rattle.pci_place.proofs.above.aboves.Given as goal

abbrev pub invariant-loop-record : goal.invariant-loop-record
invariant-loop-record g l = AreAbovesTo l.admitted.roots (system_in l.admitted) l.record-index l.aboves
