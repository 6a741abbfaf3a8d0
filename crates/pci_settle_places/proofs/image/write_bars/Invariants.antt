use Rattle.std.proofs.Common.{◌≡◌, take}
use Rattle.pci_settle_places.specs.Images.{with_bars}
use Rattle.pci_settle_places.proofs.image.write_bars.Given as goal

abbrev pub invariant-loop-bar : goal.invariant-loop-bar
invariant-loop-bar l = l.bytes ≡ with_bars l.old.0 l.places (take l.bar-index l.bars) l.initial.bytes
