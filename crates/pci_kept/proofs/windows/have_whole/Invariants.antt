use Rattle.std.proofs.Common.{◌≡◌, false}
use Rattle.std.specs.List.{AllWithin}
use Rattle.pci_kept.specs.Windows.{has_whole}
use Rattle.pci_kept.proofs.windows.have_whole.Given as goal

abbrev pub invariant-loop-k : goal.invariant-loop-k
invariant-loop-k l = AllWithin (λ r. has_whole r ≡ false) l.records 0 l.k
