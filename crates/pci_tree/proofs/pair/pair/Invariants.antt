use Rattle.std.specs.Prelude.{take}
use Rattle.std.specs.List.{All}
use Rattle.pci_spec.specs.System.{system_of}
use Rattle.pci_function.specs.Profile.{IsAnswering}
use Rattle.pci_tree.proofs.pair.pair.Given as goal

abbrev pub invariant-loop-i : goal.invariant-loop-i
invariant-loop-i g l = All IsAnswering (take l.i (system_of l.blocks l.probes))
