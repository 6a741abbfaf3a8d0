use Rattle.pci_base.specs.Space.{space_of}
use Rattle.pci_faults.specs.Lines.{AreCodeFaultsAppended}
use Rattle.pci_faults.proofs.Losing.{IsLineBelow}
use Rattle.pci_faults.proofs.unreached.add_unreached_in.Given as goal

abbrev pub invariant-loop-region : goal.invariant-loop-region
invariant-loop-region g l = AreCodeFaultsAppended l.board.outline.now (IsLineBelow l.board.outline.now (space_of l.space) l.region-items l.region-index) l.fn.out.items l.out.items
