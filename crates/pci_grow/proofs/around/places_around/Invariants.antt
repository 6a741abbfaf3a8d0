use Rattle.std.proofs.Common.{IfSome, map}
use Rattle.pci_base.specs.Ranges.{decoded_range_of}
use Rattle.pci_grow.specs.Arounds.{IsSearch}
use Rattle.pci_grow.specs.Grounds.{ground_value}
use Rattle.pci_grow.proofs.Each.{IsEachSoFar}
use Rattle.pci_grow.proofs.around.places_around.Given as goal

abbrev pub invariant-loop-index : goal.invariant-loop-index
invariant-loop-index g l = record {
  each : IsEachSoFar l.ground.around (ground_value l.ground) (map decoded_range_of l.initial.taken.items) l.items l.taken.items l.places l.index;
  search : IfSome l.last (IsSearch l.ground.around l.taken.items);
}
