use Rattle.std.proofs.lemmas.List.Sorted.{IsPermutation-trans}
use Rattle.std.proofs.lemmas.Result.{on_ok_weaker}
use Rattle.pci_place.proofs.item.sort_items.Goals as goal

pub returns-clause-permutation : goal.returns-clause-permutation
returns-clause-permutation g c = IsPermutation-trans _ _ _ c.sort_by_size.ensures.permutation c.sort_by_group.ensures.permutation

pub returns-clause-sorted : goal.returns-clause-sorted
returns-clause-sorted g c = on_ok_weaker c.sort_by_group.result (λ sorted slot register rise. sorted slot register (c.in_ok-sort_by_size.ensures.sorted slot register rise)) c.sort_by_group.ensures.sorted
