use Rattle.std.proofs.Common.{rules}
use Rattle.std.proofs.lemmas.List.Sorted.{answers_always}
use Rattle.pci_place.specs.Sorting.{StandsEarlier}
use Rattle.pci_place.proofs.StableSorts.{falls_by_sort}
use Rattle.pci_place.proofs.item.sort_by_size.Goals as goal

pub returns-in-Ok-clause-sorted : goal.returns-in-Ok-clause-sorted
returns-in-Ok-clause-sorted g c = λ slot register earlier.
    falls_by_sort (λ i. i.size) (StandsEarlier slot register) _ _ earlier
    (c.in-Ok.ensures.sorted (λ i. record { 0 = i.size }) (answers_always _ _ _ (λ f a r h k. search rules)))
    (c.in-Ok.ensures.stable (λ i. record { 0 = i.size }) (answers_always _ _ _ (λ f a r h k. search rules)))
