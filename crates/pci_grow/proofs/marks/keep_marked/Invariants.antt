use Rattle.pci_first_fit.specs.Kept.{nothing_kept}
use Rattle.pci_grow.proofs.Marked.{AreFirstDone, IsKeptToo}
use Rattle.pci_grow.proofs.marks.keep_marked.Given as goal

abbrev pub invariant-loop-index : goal.invariant-loop-index
invariant-loop-index l = AreFirstDone nothing_kept IsKeptToo l.index l.fn.table l.marks l.table
