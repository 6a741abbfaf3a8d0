use Rattle.pci_first_fit.proofs.LaidOut.{IsLaid}
use Rattle.pci_first_fit.proofs.window.end_of.Given as goal

abbrev pub invariant-loop-extent : goal.invariant-loop-extent
invariant-loop-extent g l = IsLaid l.extents l.taken.items l.end l.extent-index
