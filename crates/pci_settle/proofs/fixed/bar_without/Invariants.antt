use Rattle.std.proofs.Common.{◌≡◌, drop}
use Rattle.pci_settle.specs.Fixed.{bar_without}
use Rattle.pci_settle.proofs.fixed.bar_without.Given as goal

-- what is passed isn't it
abbrev pub invariant-loop-bar : goal.invariant-loop-bar
invariant-loop-bar l = bar_without l.above l.terms l.told l.bars ≡ bar_without l.above l.terms l.told (drop l.bar-index l.bars)
