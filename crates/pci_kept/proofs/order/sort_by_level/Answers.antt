use Rattle.std.proofs.Common.{rules}
use Rattle.std.proofs.lemmas.List.Sorted.{answers_always}
use Rattle.pci_place.proofs.StableSorts.{rises_by_sort}
use Rattle.pci_kept.specs.Order.{IsSooner}
use Rattle.pci_kept.proofs.order.sort_by_level.Goals as goal

pub returns-in-Ok-clause-sorted : goal.returns-in-Ok-clause-sorted
returns-in-Ok-clause-sorted g c = λ number pairs.
    rises_by_sort (λ r. r.level) (IsSooner number) _ _ pairs
    (c.in-Ok.ensures.sorted (λ r. r.level) (answers_always _ _ _ (λ f a r h k. search rules)))
    (c.in-Ok.ensures.stable (λ r. r.level) (answers_always _ _ _ (λ f a r h k. search rules)))
