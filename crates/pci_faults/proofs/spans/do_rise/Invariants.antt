use Rattle.std.proofs.Common.{take}
use Rattle.pci_faults.proofs.Spanning.{AreUnder}
use Rattle.pci_faults.proofs.spans.do_rise.Given as goal

abbrev pub invariant-loop-span : goal.invariant-loop-span
invariant-loop-span l = AreUnder l.end (take l.span-index l.spans)
