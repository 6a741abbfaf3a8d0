use Rattle.std.proofs.Common.{rules}
use Rattle.std.proofs.lemmas.List.Sorted.{answers_always}
use Rattle.pci_place.proofs.StableSorts.{rises_by_sort}
use Rattle.pci_kept.specs.Order.{turn_of, IsLargerPart}
use Rattle.pci_kept.proofs.order.sort_by_turn.Goals as goal

pub returns-in-Ok-clause-sorted : goal.returns-in-Ok-clause-sorted
returns-in-Ok-clause-sorted g c = λ number pairs.
    rises_by_sort turn_of (IsLargerPart number) _ _ pairs
    (c.in-Ok.ensures.sorted turn_of (answers_always _ _ _ (λ f a r h k. search rules)))
    (c.in-Ok.ensures.stable turn_of (answers_always _ _ _ (λ f a r h k. search rules)))
