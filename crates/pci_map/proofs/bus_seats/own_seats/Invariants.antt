use Rattle.std.proofs.Common.{◌≡◌, map, take}
use Rattle.pci_map.specs.declared.seat.Seat.TheVariants.{Own}
use Rattle.pci_map.proofs.bus_seats.own_seats.Given as goal

abbrev pub invariant-loop-region : goal.invariant-loop-region
invariant-loop-region g l = l.seats.items ≡ map Own (take l.region-index l.regions)
