use Rattle.std.proofs.Common.{◌≡◌, ◌-◌, length}
use Rattle.settle_spec.specs.Lists.{Request}
use Rattle.pci_place.specs.Above.{system_in}
use Rattle.pci_first_fit.specs.Buses.{classing_value}
use Rattle.pci_kept.specs.Passing.{AreStanding}
use Rattle.pci_kept.specs.Holding.{IsAsking, IsHeldFrom}
use Rattle.pci_kept.proofs.holding.hold_all.Given as goal

abbrev pub invariant-loop-done : goal.invariant-loop-done
invariant-loop-done g l = record {
  size : length l.table ≡ length l.fn.table;
  held : (q : Request) → IsAsking (classing_value l.behind.classing.now) l.behind.windows.now l.behind.regions.now l.behind.lines.now q
      → AreStanding q (system_in l.behind.classing.now.admitted.now) l.fn.table → IsHeldFrom q (system_in l.behind.classing.now.admitted.now) l.table (length (system_in l.behind.classing.now.admitted.now) - l.done);
}
