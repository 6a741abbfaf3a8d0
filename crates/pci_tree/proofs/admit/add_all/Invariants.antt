use Rattle.pci_tree.proofs.Pairings.{IsAdding}
use Rattle.pci_tree.proofs.admit.add_all.Given as goal

abbrev pub invariant-loop-i : goal.invariant-loop-i
invariant-loop-i g l = IsAdding l.survey l.initial.survey.roots l.dump l.probe l.i
