use Rattle.std.proofs.Common.{rules}
use Rattle.std.proofs.lemmas.List.Sorted.{answers_always}
use Rattle.pci_place.proofs.StableSorts.{falls_by_sort}
use Rattle.pci_first_fit.specs.Turns.{IsLargerItem}
use Rattle.pci_first_fit.proofs.item.sort_by_alignment.Goals as goal

pub returns-in-Ok-clause-sorted : goal.returns-in-Ok-clause-sorted
returns-in-Ok-clause-sorted g c = λ number larger.
    falls_by_sort (λ i. i.extent.alignment) (IsLargerItem number) _ _ larger
    (c.in-Ok.ensures.sorted (λ i. record { 0 = i.extent.alignment }) (answers_always _ _ _ (λ f a r h k. search rules)))
    (c.in-Ok.ensures.stable (λ i. record { 0 = i.extent.alignment }) (answers_always _ _ _ (λ f a r h k. search rules)))
