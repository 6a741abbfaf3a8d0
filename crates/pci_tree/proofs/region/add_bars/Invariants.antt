use Rattle.std.proofs.Common.{◌≡◌, ◌++◌, take}
use Rattle.pci_base.specs.Space.{space_of}
use Rattle.pci_tree.specs.Regions.{bar_regions}
use Rattle.pci_tree.proofs.region.add_bars.Given as goal

abbrev pub invariant-loop-bar : goal.invariant-loop-bar
invariant-loop-bar g l = l.out.items ≡ l.fn.out.items ++ bar_regions l.slot (space_of l.space) (take l.bar-index l.bars)
