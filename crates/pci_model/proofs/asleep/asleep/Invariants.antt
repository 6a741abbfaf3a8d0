use Rattle.pci_model.specs.WordsValue.{words_value}
use Rattle.pci_model.proofs.Sleepers.{AreAsleepSoFar}
use Rattle.pci_model.proofs.asleep.asleep.Given as goal

abbrev pub invariant-loop-i : goal.invariant-loop-i
invariant-loop-i g l = AreAsleepSoFar (words_value l.words) l.blocks l.probes l.i l.slots.items
