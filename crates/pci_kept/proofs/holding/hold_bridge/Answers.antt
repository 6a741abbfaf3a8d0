use Rattle.std.proofs.Common.{refl}
use Rattle.pci_place.specs.Above.{system_in}
use Rattle.pci_kept.proofs.HeldTables.{held_more}
use Rattle.pci_kept.proofs.holding.hold_bridge.Goals as goal

pub returns : goal.returns
returns g c = λ q f asking at held.
    held_more q (system_in c.args.behind.now.classing.now.admitted.now) asking.system asking.nested c.args.function f at c.args.table.now held _ c.in_ok-io.io c.in_ok-memory.memory c.in_ok-prefetchable.prefetchable
    record { bars = λ n. refl; rom = refl; io_is = refl; memory_is = refl; prefetch_is = refl }
    (c.in_ok-io.ensures q f asking at held) (c.in_ok-memory.ensures q f asking at held) (c.in_ok-prefetchable.ensures q f asking at held)
