use Rattle.std.proofs.Common.{◌≡◌, map, take}
use Rattle.pci_kept.specs.Rooms.{wanted_value}
use Rattle.pci_kept.proofs.room.wanted_of.Given as goal

abbrev pub invariant-loop-item : goal.invariant-loop-item
invariant-loop-item g l = l.wanted.items ≡ map wanted_value (take l.item-index l.items)
