use Rattle.std.proofs.Common.{rules}
use Rattle.std.proofs.lemmas.List.Sorted.{answers_always, IsNonDecreasingBy-from_sort_by_key}
use Rattle.pci_place.proofs.StableSorts.{rises_by_sort}
use Rattle.pci_grow.specs.Rows.{region_row_number, IsLower}
use Rattle.pci_grow.proofs.beside.sort_by_row.Goals as goal

pub returns-in-Ok-clause-sorted : goal.returns-in-Ok-clause-sorted
returns-in-Ok-clause-sorted g c = λ number pairs.
    rises_by_sort region_row_number (IsLower number) _ _ pairs
    (c.in-Ok.ensures.sorted region_row_number (answers_always _ _ _ (λ f a r h k. search rules)))
    (c.in-Ok.ensures.stable region_row_number (answers_always _ _ _ (λ f a r h k. search rules)))

pub returns-in-Ok-clause-rows : goal.returns-in-Ok-clause-rows
returns-in-Ok-clause-rows g c = IsNonDecreasingBy-from_sort_by_key region_row_number _ c.in-Ok.ensures.sorted (λ a r f k. search rules)
