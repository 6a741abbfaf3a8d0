use Rattle.std.proofs.Common.{take}
use Rattle.pci_faults.proofs.Owning.{NoneOwned}
use Rattle.pci_faults.proofs.meetings.first_owned.Given as goal

abbrev pub invariant-loop-piece : goal.invariant-loop-piece
invariant-loop-piece g l = NoneOwned l.owners (take l.piece-index l.pieces)
