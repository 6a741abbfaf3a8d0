use Rattle.pci_settle.proofs.WishesLists.{AreWindowsTo}
use Rattle.pci_settle.proofs.wishes_before.windows_before.Given as goal

abbrev pub invariant-loop-k : goal.invariant-loop-k
invariant-loop-k g l = AreWindowsTo l.records l.tables l.k l.table.items
