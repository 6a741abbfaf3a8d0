use Rattle.std.proofs.Common.{◌+◌, ◌∙◌, arith, subst}
use Rattle.std.specs.List.Sorted.{IsStrictlyIncreasing}
use Rattle.pci_tree.proofs.RootLists.{set_rises}
use Rattle.pci_plan.proofs.planning.roots_of.Goals as goal

pub returns-clause-rising : goal.returns-clause-rising
returns-clause-rising g c = subst IsStrictlyIncreasing (c.roots.ensures ∙ c.outline.ensures.roots) (λ k l. set_rises c.roots.result.flags k (k + 1) 0 (omega arith) l)
