use Rattle.std.proofs.Common.{◌-◌, length}
use Rattle.pci_base.specs.WindowKinds.{kind_value}
use Rattle.pci_place.specs.Pools.{pools_value}
use Rattle.pci_place.specs.Above.{system_in}
use Rattle.pci_place.proofs.NeedTables.{AreNeedsFrom}
use Rattle.pci_place.proofs.need.needs_of.Given as goal

abbrev pub invariant-loop-done : goal.invariant-loop-done
invariant-loop-done g l = AreNeedsFrom l.admitted.roots (system_in l.admitted) (pools_value l.pools) (kind_value l.class) (length (system_in l.admitted) - l.done) l.needs.of_bus l.greatest
