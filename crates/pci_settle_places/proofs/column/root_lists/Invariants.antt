use Rattle.std.proofs.Common.{map}
use Rattle.pci_base.specs.Space.{space_of}
use Rattle.pci_tree.specs.Roots.{buses_of}
use Rattle.pci_first_fit.specs.Lists.{lists_value}
use Rattle.pci_settle_places.specs.Columns.{HasRootColumns}
use Rattle.pci_settle_places.proofs.column.root_lists.Given as goal

abbrev pub invariant-loop-bus : goal.invariant-loop-bus
invariant-loop-bus g l = HasRootColumns (buses_of l.roots) (lists_value l.lists) (space_of l.space) l.bus (map (λ list. list.items) l.all.items)
