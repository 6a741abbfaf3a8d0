use Rattle.std.proofs.Common.{◌≤◌}
use Rattle.pci_base.specs.Space.{space_of}
use Rattle.pci_map.specs.BusSeats.{AreToldSeats, AreMoreSeats}
use Rattle.pci_map.proofs.bus_seats.add_told.Given as goal

abbrev pub invariant-loop-i : goal.invariant-loop-i
invariant-loop-i g l = record {
  from : l.fn.stretch.first ≤ l.i;
  made : AreMoreSeats (AreToldSeats l.ranges l.on l.fn.stretch.first l.i (space_of l.space)) l.fn.seats.items l.seats.items;
}
