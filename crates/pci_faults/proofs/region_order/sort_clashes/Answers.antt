use Rattle.std.proofs.Common.{rules}
use Rattle.std.proofs.lemmas.List.Sorted.{answers_always, IsNonDecreasingBy-from_sort}
use Rattle.pci_faults.specs.RegionOrder.{clash_place}
use Rattle.pci_faults.proofs.region_order.sort_clashes.Goals as goal

pub returns-in-Ok-clause-sorted : goal.returns-in-Ok-clause-sorted
returns-in-Ok-clause-sorted g c =
    IsNonDecreasingBy-from_sort clash_place _ (c.in-Ok.ensures.sorted clash_place (answers_always _ _ _ (λ f a r h k. search rules)))
