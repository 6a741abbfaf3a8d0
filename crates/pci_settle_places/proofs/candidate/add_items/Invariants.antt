use Rattle.std.proofs.Common.{◌≡◌, ◌++◌, map, take}
use Rattle.pci_settle_places.specs.Candidates.{of_class}
use Rattle.pci_settle_places.proofs.candidate.add_items.Given as goal

abbrev pub invariant-loop-item : goal.invariant-loop-item
invariant-loop-item g l = l.candidates.items ≡ l.initial.candidates.items ++ take l.item-index (map (of_class l.class) l.items)
