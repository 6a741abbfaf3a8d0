use Rattle.std.proofs.Common.{◌≡◌, ◌++◌, take}
use Rattle.pci_kept.specs.Regions.{owned_bar_regions}
use Rattle.pci_kept.proofs.region.add_bars.Given as goal

abbrev pub invariant-loop-bar : goal.invariant-loop-bar
invariant-loop-bar g l = l.out.items ≡ l.fn.out.items ++ owned_bar_regions l.owner l.over l.terms (take l.bar-index l.bars)
