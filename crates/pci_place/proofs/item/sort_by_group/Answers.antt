use Rattle.std.proofs.Common.{rules}
use Rattle.std.proofs.lemmas.List.Sorted.{answers_always}
use Rattle.pci_place.specs.Sorting.{IsLarger}
use Rattle.pci_place.proofs.StableSorts.{rises_by_sort}
use Rattle.pci_place.proofs.item.sort_by_group.Goals as goal

pub returns-in-Ok-clause-sorted : goal.returns-in-Ok-clause-sorted
returns-in-Ok-clause-sorted g c = λ slot register larger.
    rises_by_sort (λ i. i.group) (IsLarger slot register) _ _ larger
    (c.in-Ok.ensures.sorted (λ i. i.group) (answers_always _ _ _ (λ f a r h k. search rules)))
    (c.in-Ok.ensures.stable (λ i. i.group) (answers_always _ _ _ (λ f a r h k. search rules)))
