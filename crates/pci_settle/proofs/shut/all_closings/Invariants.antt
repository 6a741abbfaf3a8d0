use Rattle.std.proofs.Common.{◌≡◌, length}
use Rattle.settle_spec.specs.Lists.{Request}
use Rattle.settle_spec.specs.Kept.{Kept}
use Rattle.pci_place.specs.Above.{system_in}
use Rattle.pci_settle.specs.Closed.{IsClosedBy}
use Rattle.pci_settle.proofs.Closings.{AreClosedTo}
use Rattle.pci_settle.proofs.shut.all_closings.Given as goal

abbrev pub invariant-loop-k : goal.invariant-loop-k
invariant-loop-k g l = record {
  count : length l.each.items ≡ l.k;
  size : length l.ways.items ≡ 256;
  closed : (q : Request) (keep : Kept) → IsClosedBy q keep l.admitted l.fn.lists l.overs l.images l.tables
      → AreClosedTo q l.admitted.roots (system_in l.admitted) keep l.k l.ways.items l.each.items;
}
