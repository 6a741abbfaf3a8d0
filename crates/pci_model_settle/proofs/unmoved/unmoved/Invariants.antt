use Rattle.pci_model.specs.WordsValue.{words_value}
use Rattle.pci_model_settle.proofs.Staying.{AreSoFar}
use Rattle.pci_model_settle.proofs.unmoved.unmoved.Given as goal

abbrev pub invariant-loop-i : goal.invariant-loop-i
invariant-loop-i g l = AreSoFar (words_value l.words) l.asleep.items l.blocks l.probes l.changed l.taken.probe l.i l.slots.items
