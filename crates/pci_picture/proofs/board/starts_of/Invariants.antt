use Rattle.std.proofs.Common.{take}
use Rattle.pci_picture.proofs.Starts.{AreCounts, AreSummed}
use Rattle.pci_picture.proofs.board.starts_of.Given as goal

abbrev pub invariant-loop-function : goal.invariant-loop-function
invariant-loop-function l = AreCounts (take l.function-index l.functions) l.starts

abbrev pub invariant-loop-bus : goal.invariant-loop-bus
invariant-loop-bus l = AreSummed l.functions l.starts l.bus
