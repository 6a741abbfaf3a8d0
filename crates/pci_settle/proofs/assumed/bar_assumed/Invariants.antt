use Rattle.std.proofs.Common.{◌≡◌, drop}
use Rattle.pci_spec.specs.Mark.{all_named}
use Rattle.pci_settle.specs.Assumed.{bar_assumed}
use Rattle.pci_settle.proofs.assumed.bar_assumed.Given as goal

-- what is passed isn't it
abbrev pub invariant-loop-bar : goal.invariant-loop-bar
invariant-loop-bar l = bar_assumed (all_named l.probe) l.slot l.bars ≡ bar_assumed (all_named l.probe) l.slot (drop l.bar-index l.bars)
