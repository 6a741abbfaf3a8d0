use Rattle.std.proofs.Common.{◌≡◌, ◌++◌, map, take}
use Rattle.pci_picture.proofs.tellings.push_faults.Given as goal

abbrev pub invariant-loop-naming : goal.invariant-loop-naming
invariant-loop-naming g l = l.about.items ≡ l.initial.about.items ++ map (λ naming. naming.fault) (take l.naming-index l.namings)
