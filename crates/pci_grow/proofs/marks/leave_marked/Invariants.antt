use Rattle.pci_first_fit.specs.Tables.{untold}
use Rattle.pci_grow.proofs.Marked.{AreFirstDone, IsLeftTold}
use Rattle.pci_grow.proofs.marks.leave_marked.Given as goal

abbrev pub invariant-loop-index : goal.invariant-loop-index
invariant-loop-index l = AreFirstDone untold IsLeftTold l.index l.fn.table l.marks l.table
