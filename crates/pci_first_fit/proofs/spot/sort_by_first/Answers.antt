use Rattle.std.proofs.Common.{rules, arith}
use Rattle.std.proofs.lemmas.List.Sorted.{IsNonDecreasingBy-from_sort_by_key}
use Rattle.pci_base.specs.declared.range.Range.{Range}
use Rattle.pci_first_fit.proofs.spot.sort_by_first.Goals as goal

pub returns-clause-order : goal.returns-clause-order
returns-clause-order g c = λ j k d less within.
    IsNonDecreasingBy-from_sort_by_key (λ (r : Range). r.first) _ c.sort_unstable_by_key.ensures.sorted (λ a r f n. search rules) j k d (omega (arith, less)) within
