use Rattle.std.proofs.Common.{◌≡◌, ◌++◌, take}
use Rattle.pci_base.specs.WindowKinds.{kind_value}
use Rattle.pci_place.specs.Items.{bar_items}
use Rattle.pci_place.proofs.item.add_bars.Given as goal

abbrev pub invariant-loop-bar : goal.invariant-loop-bar
invariant-loop-bar g l = l.items.items ≡ l.fn.items.items ++ bar_items l.owner (kind_value l.sought.class) l.sought.above l.sought.pools.now (take l.bar-index l.bars)
