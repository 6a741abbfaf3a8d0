use Rattle.std.proofs.Common.{◌<◌, rules}
use Rattle.std.proofs.lemmas.List.Sorted.{answers_always}
use Rattle.pci_place.proofs.StableSorts.{falls_by_sort}
use Rattle.pci_kept.specs.Order.{span_of}
use Rattle.pci_kept.proofs.order.sort_by_size.Goals as goal

pub returns-in-Ok-clause-sorted : goal.returns-in-Ok-clause-sorted
returns-in-Ok-clause-sorted g c = λ number pairs.
    falls_by_sort span_of (λ r t. number r < number t) _ _ pairs
    (c.in-Ok.ensures.sorted (λ r. record { 0 = span_of r }) (answers_always _ _ _ (λ f a r h k. search rules)))
    (c.in-Ok.ensures.stable (λ r. record { 0 = span_of r }) (answers_always _ _ _ (λ f a r h k. search rules)))
