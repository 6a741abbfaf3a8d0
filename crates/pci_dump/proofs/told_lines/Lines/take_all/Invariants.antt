use Rattle.std.proofs.Common.{length, ◌-◌}
use Rattle.pci_dump.specs.ToldSteps.{AreTaken}
use Rattle.pci_dump.proofs.told_lines.Lines.take_all.Given as goal

abbrev pub invariant-loop-at : goal.invariant-loop-at
invariant-loop-at g l = AreTaken l.initial.self l.bytes l.at l.self

abbrev pub decreases-loop-at : goal.decreases-loop-at
decreases-loop-at g l = length l.bytes - l.at
