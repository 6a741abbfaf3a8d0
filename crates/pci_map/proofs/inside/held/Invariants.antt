use Rattle.std.proofs.Common.{◌≡◌, take}
use Rattle.std.specs.List.{filter}
use Rattle.pci_map.specs.Inside.{is_held_first}
use Rattle.pci_map.proofs.inside.held.Given as goal

abbrev pub invariant-loop-seat : goal.invariant-loop-seat
invariant-loop-seat g l = l.out.items ≡ filter (is_held_first l.opening.window.now l.opening.earlier l.opening.cut) (take l.seat-index l.seats)
