use Rattle.std.proofs.Common.{take}
use Rattle.pci_faults.specs.Owned.{AreGiven}
use Rattle.pci_faults.proofs.meetings.add_pieces.Given as goal

abbrev pub invariant-loop-piece : goal.invariant-loop-piece
invariant-loop-piece g l = AreGiven (take l.piece-index l.pieces) l.owner l.fn.owners l.owners
