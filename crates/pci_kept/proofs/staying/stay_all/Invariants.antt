use Rattle.std.proofs.Common.{◌≡◌, Bool, length}
use Rattle.pci_spec.specs.System.{System}
use Rattle.settle_spec.specs.Lists.{Request}
use Rattle.settle_spec.specs.Parts.{FunctionPart}
use Rattle.pci_first_fit.specs.Lists.{lists_value}
use Rattle.pci_kept.specs.Boards.{IsBoard}
use Rattle.pci_kept.specs.Known.{AreParts}
use Rattle.pci_kept.specs.Holding.{AreNoted}
use Rattle.pci_kept.specs.Staying.{HoldsWhereStands, IsStayedTo}
use Rattle.pci_kept.proofs.staying.stay_all.Given as goal

abbrev pub invariant-loop-index : goal.invariant-loop-index
invariant-loop-index l = record {
  size : length l.table ≡ length l.fn.table;
  stayed : (q : Request) (s : System) (holds : FunctionPart → Bool) → IsBoard q s l.board.records.now (lists_value l.lists) → AreParts q s l.board.regions.now
      → HoldsWhereStands q s holds → AreNoted s holds l.fn.table → IsStayedTo q s holds l.board.regions.now l.index l.table;
}
