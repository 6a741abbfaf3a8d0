use Rattle.std.proofs.Common.{rules}
use Rattle.std.proofs.lemmas.List.Sorted.{answers_always, IsNonDecreasingBy-from_sort}
use Rattle.pci_map.specs.BusSeats.{seat_number}
use Rattle.pci_map.proofs.bus_seats.sort.Goals as goal

pub returns-in-Ok-clause-sorted : goal.returns-in-Ok-clause-sorted
returns-in-Ok-clause-sorted g c =
    IsNonDecreasingBy-from_sort seat_number _ (c.in-Ok.ensures.sorted seat_number (answers_always _ _ _ (λ f a r h k. search rules)))
