use Rattle.std.proofs.Common.{◌≡◌, take}
use Rattle.pci_grow.specs.There.{tables_of, there_of}
use Rattle.pci_grow.proofs.there.there_in.Given as goal

abbrev pub invariant-loop-region : goal.invariant-loop-region
invariant-loop-region g l = l.taken.items ≡ there_of (tables_of l.there) (take l.region-index l.row)
