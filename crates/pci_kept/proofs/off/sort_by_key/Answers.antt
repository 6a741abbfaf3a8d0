use Rattle.std.proofs.Common.{◌≤◌, rules}
use Rattle.std.proofs.lemmas.List.Sorted.{answers_always}
use Rattle.pci_place.proofs.StableSorts.{rises_by_sort}
use Rattle.pci_kept.specs.declared.rows.Row.{Row}
use Rattle.pci_kept.proofs.off.sort_by_key.Goals as goal

pub returns-in-Ok-clause-sorted : goal.returns-in-Ok-clause-sorted
returns-in-Ok-clause-sorted g c = λ pairs.
    rises_by_sort (λ (r : Row). r.key) (λ (r t : Row). r.range.first ≤ t.range.first) _ _ pairs
    (c.in-Ok.ensures.sorted (λ (r : Row). r.key) (answers_always _ _ _ (λ f a r h k. search rules)))
    (c.in-Ok.ensures.stable (λ (r : Row). r.key) (answers_always _ _ _ (λ f a r h k. search rules)))
