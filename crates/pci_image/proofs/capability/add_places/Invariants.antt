use Rattle.std.proofs.Common.{◌-◌, length}
use Rattle.pci_image.proofs.Walking.{IsWalk, HasPlaces}
use Rattle.pci_image.proofs.capability.add_places.Given as goal

abbrev pub invariant-loop-place : goal.invariant-loop-place
invariant-loop-place l = record {
  walk : IsWalk l.image.0 l.found.items l.place;
  met : HasPlaces l.met.bits l.found.items;
}

abbrev pub decreases-loop-place : goal.decreases-loop-place
decreases-loop-place l = 48 - length l.found.items
