use Rattle.std.proofs.Common.{rules}
use Rattle.std.proofs.lemmas.List.Sorted.{answers_always, IsNonDecreasingBy-from_sort}
use Rattle.pci_faults.specs.Needed.{needed_place}
use Rattle.pci_faults.proofs.needed.sort.Goals as goal

pub returns-in-Ok-clause-sorted : goal.returns-in-Ok-clause-sorted
returns-in-Ok-clause-sorted g c =
    IsNonDecreasingBy-from_sort needed_place _ (c.in-Ok.ensures.sorted needed_place (answers_always _ _ _ (λ f a r h k. search rules)))
