use Rattle.std.proofs.Common.{rules}
use Rattle.std.proofs.lemmas.List.Sorted.{IsNonDecreasingBy-from_sort_by_key}
use Rattle.pci_first_fit.specs.Lines.{line_level}
use Rattle.pci_first_fit.proofs.lines.sort_by_level.Goals as goal

pub returns-clause-order : goal.returns-clause-order
returns-clause-order g c = IsNonDecreasingBy-from_sort_by_key line_level _ c.sort_unstable_by_key.ensures.sorted (λ a r f k. search rules)
