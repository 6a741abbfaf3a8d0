use Rattle.std.proofs.Common.{◌≡◌, ◌++◌, take}
use Rattle.std.specs.List.{filter}
use Rattle.pci_first_fit.specs.Spots.{is_near}
use Rattle.pci_first_fit.proofs.near.add_near.Given as goal

abbrev pub invariant-loop-other : goal.invariant-loop-other
invariant-loop-other g l = l.out.items ≡ l.initial.out.items ++ filter (is_near l.ranges) (take l.other-index l.others)
