use Rattle.std.proofs.Common.{◌≡◌, take}
use Rattle.pci_grow.proofs.begin.copy_all.Given as goal

abbrev pub invariant-loop-kept : goal.invariant-loop-kept
invariant-loop-kept g l = l.copy.items ≡ take l.kept-index l.table
