use Rattle.std.proofs.lemmas.List.Sorted.{IsPermutation-trans}
use Rattle.std.proofs.lemmas.Result.{on_ok_weaker}
use Rattle.pci_kept.proofs.order.sort_regions.Goals as goal

pub returns-clause-permutation : goal.returns-clause-permutation
returns-clause-permutation g c =
    IsPermutation-trans _ _ _ c.sort_by_size.ensures.permutation (IsPermutation-trans _ _ _ c.sort_by_turn.ensures.permutation c.sort_by_level.ensures.permutation)

pub returns-clause-sorted : goal.returns-clause-sorted
returns-clause-sorted g c =
    on_ok_weaker c.sort_by_level.result
    (λ sorted number rise. sorted number (c.in_ok-sort_by_turn.ensures.sorted number (c.in_ok-sort_by_size.ensures.sorted number rise)))
    c.sort_by_level.ensures.sorted

pub returns-in_err-sort_by_turn-clause-permutation : goal.returns-in_err-sort_by_turn-clause-permutation
returns-in_err-sort_by_turn-clause-permutation g c = IsPermutation-trans _ _ _ c.sort_by_size.ensures.permutation c.sort_by_turn.ensures.permutation
