use Rattle.std.proofs.Common.{◌≡◌, map, take}
use Rattle.pci_map.specs.Seats.{seat_range}
use Rattle.pci_map.proofs.gaps.ranges_of.Given as goal

abbrev pub invariant-loop-seat : goal.invariant-loop-seat
invariant-loop-seat g l = l.out.items ≡ map seat_range (take l.seat-index l.seats)
