use Rattle.pci_model.specs.WordsValue.{words_value}
use Rattle.pci_model.proofs.Takes.{AreTakenSoFar}
use Rattle.pci_model.proofs.take.taken_by.Given as goal

abbrev pub invariant-loop-i : goal.invariant-loop-i
invariant-loop-i g l = AreTakenSoFar (words_value l.words) l.blocks l.probes l.i l.taken.dump l.taken.probe
