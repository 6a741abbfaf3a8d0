use Rattle.std.proofs.Common.{◌≡◌, length}
use Rattle.pci_tree.proofs.Tables.{IsTableBelow}
use Rattle.pci_kept.proofs.place.bridges_over.Given as goal

abbrev pub invariant-loop-index : goal.invariant-loop-index
invariant-loop-index l = record { size : length l.over ≡ 256; filled : IsTableBelow l.index l.records l.over }
