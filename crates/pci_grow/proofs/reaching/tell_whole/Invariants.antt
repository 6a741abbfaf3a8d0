use Rattle.std.proofs.Common.{◌≡◌, false}
use Rattle.std.specs.List.{AllWithin}
use Rattle.pci_grow.specs.Reaching.{tells_whole}
use Rattle.pci_grow.proofs.reaching.tell_whole.Given as goal

abbrev pub invariant-loop-k : goal.invariant-loop-k
invariant-loop-k l = AllWithin (λ r. tells_whole r ≡ false) l.reaches 0 l.k
