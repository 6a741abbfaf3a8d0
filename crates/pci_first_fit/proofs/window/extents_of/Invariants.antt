use Rattle.std.proofs.Common.{◌≡◌, map, take}
use Rattle.pci_first_fit.specs.Turns.{extent_of_item}
use Rattle.pci_first_fit.proofs.window.extents_of.Given as goal

abbrev pub invariant-loop-item : goal.invariant-loop-item
invariant-loop-item g l = l.extents.items ≡ take l.item-index (map extent_of_item l.items)
