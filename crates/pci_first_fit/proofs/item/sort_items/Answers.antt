use Rattle.settle_spec.specs.Stands.{rank}
use Rattle.std.proofs.lemmas.List.Sorted.{IsPermutation-trans}
use Rattle.std.proofs.lemmas.Result.{on_ok_weaker}
use Rattle.pci_first_fit.proofs.Turns.{numbers, turn_by_sort}
use Rattle.pci_first_fit.proofs.item.sort_items.Goals as goal

pub returns-clause-permutation : goal.returns-clause-permutation
returns-clause-permutation g c = IsPermutation-trans _ _ _ c.sort_by_size.ensures.permutation c.sort_by_alignment.ensures.permutation

pub returns-clause-turn : goal.returns-clause-turn
returns-clause-turn g c =
    on_ok_weaker c.sort_by_alignment.result
    (λ sorted value valued rise.
    turn_by_sort value valued _ _ rise (IsPermutation-trans _ _ _ c.sort_by_size.ensures.permutation c.sort_by_alignment.ensures.permutation)
    (sorted (λ i. rank (value i).region) (c.in_ok-sort_by_size.ensures.sorted (λ i. rank (value i).region) (numbers value valued _ rise))))
    c.sort_by_alignment.ensures.sorted
