use Rattle.std.proofs.Common.{◌≡◌, map, take}
use Rattle.pci_picture.specs.declared.tellings.Index.{Index}
use Rattle.pci_picture.proofs.tellings.keys_of.Given as goal

abbrev pub invariant-loop-index : goal.invariant-loop-index
invariant-loop-index g l = map (λ (one : Index). one.key) l.keys.items ≡ map (λ region. region.key) (take l.index l.regions)
