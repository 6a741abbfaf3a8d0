use Rattle.std.proofs.Common.{rules}
use Rattle.std.proofs.lemmas.List.Sorted.{answers_always}
use Rattle.pci_kept.specs.declared.rows.Row.{Row}
use Rattle.pci_kept.proofs.RowOrders.{firsts_rise}
use Rattle.pci_kept.proofs.off.sort_by_first.Goals as goal

pub returns-in-Ok-clause-sorted : goal.returns-in-Ok-clause-sorted
returns-in-Ok-clause-sorted g c =
    firsts_rise _ _
    (c.in-Ok.ensures.sorted (λ (r : Row). r.range.first) (answers_always _ _ _ (λ f a r h k. search rules)))
    (c.in-Ok.ensures.stable (λ (r : Row). r.range.first) (answers_always _ _ _ (λ f a r h k. search rules)))
