use Rattle.std.proofs.lemmas.List.Sorted.{IsPermutation-trans}
use Rattle.std.proofs.lemmas.Result.{on_ok_weaker}
use Rattle.pci_kept.proofs.off.sort_rows.Goals as goal

pub returns-clause-permutation : goal.returns-clause-permutation
returns-clause-permutation g c = IsPermutation-trans _ _ _ c.sort_by_first.ensures.permutation c.sort_by_key.ensures.permutation

pub returns-clause-sorted : goal.returns-clause-sorted
returns-clause-sorted g c = on_ok_weaker c.sort_by_key.result (λ sorted. sorted c.in_ok-sort_by_first.ensures.sorted) c.sort_by_key.ensures.sorted
