use Rattle.std.proofs.Common.{◌≡◌, length}
use Rattle.pci_spec.specs.System.{System}
use Rattle.settle_spec.specs.Lists.{Request}
use Rattle.pci_grow.specs.Reaches.{given_value, StandsInRows, AreFirstReaches, TellsSameOutside}
use Rattle.pci_grow.proofs.reach.find_reaches.Given as goal

abbrev pub invariant-loop-index : goal.invariant-loop-index
invariant-loop-index l = record {
  size : length l.reaches ≡ length l.fn.reaches;
  told : (q : Request) (s : System) → StandsInRows q s l.board.records.now (given_value l.board) l.rows
      → AreFirstReaches q s l.rows l.index l.reaches;
  others : TellsSameOutside l.rows l.index l.fn.reaches l.reaches;
}
