use Rattle.pci_place.specs.Above.{system_in}
use Rattle.pci_place.proofs.NoWindows.{NoneLacks}
use Rattle.pci_place.proofs.lacking.first_lacking.Given as goal

abbrev pub invariant-loop-record : goal.invariant-loop-record
invariant-loop-record g l = NoneLacks (system_in l.admitted) l.record-index
