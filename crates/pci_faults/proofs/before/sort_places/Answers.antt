use Rattle.std.proofs.Common.{rules}
use Rattle.std.proofs.lemmas.List.Sorted.{answers_always, IsNonDecreasingBy-from_sort}
use Rattle.pci_function.specs.Fault.{fault_of}
use Rattle.pci_faults.specs.Before.{place_number}
use Rattle.pci_faults.proofs.before.sort_places.Goals as goal

pub returns-in-Ok-clause-sorted : goal.returns-in-Ok-clause-sorted
returns-in-Ok-clause-sorted g c =
    IsNonDecreasingBy-from_sort (λ f. place_number (fault_of f)) _ (c.in-Ok.ensures.sorted (λ f. place_number (fault_of f)) (answers_always _ _ _ (λ f a r h k. search rules)))
