use Rattle.std.proofs.Common.{◌≡◌, []}
use Rattle.pci_spec.specs.System.{System}
use Rattle.settle_spec.specs.Lists.{Request}
use Rattle.pci_kept.specs.ToldLines.{AreToldLines}
use Rattle.pci_kept.proofs.LineRowing.{AreRowsBelow}
use Rattle.pci_kept.proofs.off.add_rows.Given as goal

abbrev pub invariant-loop-index : goal.invariant-loop-index
invariant-loop-index g l =
    (q : Request) (s : System) → q.told.ranges ≡ l.told.ranges.now → AreToldLines q s l.told.lines.now → l.fn.rows.items ≡ [] → AreRowsBelow q s l.all l.index l.rows.items
