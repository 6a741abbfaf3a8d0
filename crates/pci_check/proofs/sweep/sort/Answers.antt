use Rattle.std.proofs.Common.{rules}
use Rattle.std.proofs.lemmas.List.Sorted.{answers_always, IsNonDecreasingBy-from_sort}
use Rattle.pci_check.proofs.sweep.sort.Goals as goal

pub returns-clause-sorted : goal.returns-clause-sorted
returns-clause-sorted g c =
    IsNonDecreasingBy-from_sort (λ r. r.first) _ (c.sort_unstable_by_key.ensures.sorted (λ r. r.first) (answers_always _ _ _ (λ f a r h k. search rules)))
