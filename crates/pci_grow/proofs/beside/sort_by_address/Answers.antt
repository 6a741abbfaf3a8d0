use Rattle.std.proofs.Common.{◌<◌, rules}
use Rattle.std.proofs.lemmas.List.Sorted.{answers_always}
use Rattle.pci_place.proofs.StableSorts.{rises_by_sort}
use Rattle.pci_grow.proofs.beside.sort_by_address.Goals as goal

pub returns-in-Ok-clause-sorted : goal.returns-in-Ok-clause-sorted
returns-in-Ok-clause-sorted g c = λ number pairs.
    rises_by_sort (λ r. r.range.first) (λ r t. number r < number t) _ _ pairs
    (c.in-Ok.ensures.sorted (λ r. r.range.first) (answers_always _ _ _ (λ f a r h k. search rules)))
    (c.in-Ok.ensures.stable (λ r. r.range.first) (answers_always _ _ _ (λ f a r h k. search rules)))
