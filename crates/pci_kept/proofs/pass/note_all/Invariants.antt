use Rattle.std.proofs.Common.{◌≡◌, length}
use Rattle.judge_spec.specs.Told.{IsTold}
use Rattle.settle_spec.specs.Lists.{Request}
use Rattle.pci_spec.specs.System.{System}
use Rattle.pci_first_fit.specs.Lists.{lists_value}
use Rattle.pci_kept.specs.Boards.{IsBoard}
use Rattle.pci_kept.specs.Taken.{AreApartInOrder, taken_with}
use Rattle.pci_kept.specs.LineRows.{AreOffRows}
use Rattle.pci_kept.specs.Passing.{AreOrdered, AreFirstPassed}
use Rattle.pci_kept.proofs.pass.note_all.Given as goal

abbrev pub invariant-loop-index : goal.invariant-loop-index
invariant-loop-index g l = record {
  size : length l.table ≡ length l.board.records.now;
  io : AreApartInOrder l.taken.io.items;
  mem : AreApartInOrder l.taken.mem.items;
  passed : (q : Request) (s : System) → IsBoard q s l.board.records.now (lists_value l.board.lists) → IsTold q.told.ranges → AreOffRows q s l.board.off → AreOrdered q s l.regions
      → AreFirstPassed q s l.regions 0 (taken_with l.fn.taken.level l.fn.taken.io.items l.fn.taken.mem.items) l.fn.table
      → AreFirstPassed q s l.regions l.index (taken_with l.taken.level l.taken.io.items l.taken.mem.items) l.table;
}
