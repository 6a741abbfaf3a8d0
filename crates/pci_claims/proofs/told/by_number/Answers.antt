use Rattle.std.proofs.Common.{rules}
use Rattle.std.proofs.lemmas.List.Sorted.{answers_always, IsNonDecreasingBy-from_sort}
use Rattle.pci_spec.specs.Slot.{slot_number}
use Rattle.pci_claims.proofs.told.by_number.Goals as goal

pub returns-in-Ok-clause-sorted : goal.returns-in-Ok-clause-sorted
returns-in-Ok-clause-sorted g c =
    IsNonDecreasingBy-from_sort slot_number _ (c.in-Ok.ensures.sorted slot_number (answers_always _ _ _ (λ f a r h k. search rules)))
