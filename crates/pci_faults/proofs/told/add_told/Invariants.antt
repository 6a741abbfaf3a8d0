use Rattle.std.proofs.Common.{◌≡◌, ◌++◌, map, take}
use Rattle.pci_faults.specs.Lines.{share_fault}
use Rattle.pci_faults.proofs.told.add_told.Given as goal

abbrev pub invariant-loop-share : goal.invariant-loop-share
invariant-loop-share g l = l.out.items ≡ l.fn.out.items ++ map (share_fault l.among l.space l.regions) (take l.share-index l.shares)
