use Rattle.pci_base.specs.WindowKinds.{kind_value}
use Rattle.pci_place.specs.Pools.{pools_value}
use Rattle.pci_place.specs.Above.{system_in}
use Rattle.pci_place.proofs.ItemValues.{AreItemsTo}
use Rattle.pci_place.proofs.item.items_of.Given as goal

abbrev pub invariant-loop-function : goal.invariant-loop-function
invariant-loop-function g l = AreItemsTo l.admitted.roots (system_in l.admitted) (pools_value l.pools) (kind_value l.class) l.function l.items.items
