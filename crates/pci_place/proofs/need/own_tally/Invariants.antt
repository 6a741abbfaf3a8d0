use Rattle.std.proofs.Common.{take}
use Rattle.pci_base.specs.WindowKinds.{kind_value}
use Rattle.pci_place.specs.Sizes.{bar_sizes, IsTallyOf}
use Rattle.pci_place.proofs.need.own_tally.Given as goal

abbrev pub invariant-loop-bar : goal.invariant-loop-bar
invariant-loop-bar l = IsTallyOf (bar_sizes (kind_value l.class) l.above l.pools (take l.bar-index l.bar-items)) l.tally
