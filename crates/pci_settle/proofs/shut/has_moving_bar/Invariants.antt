use Rattle.std.proofs.Common.{◌≡◌, false, take}
use Rattle.std.specs.List.{list_any}
use Rattle.pci_base.specs.Space.{space_of}
use Rattle.pci_settle.specs.Shut.{is_moving_bar}
use Rattle.pci_settle.proofs.shut.has_moving_bar.Given as goal

abbrev pub invariant-loop-bar : goal.invariant-loop-bar
invariant-loop-bar l = list_any (is_moving_bar l.around (space_of l.space) l.old.0 l.new.0) (take l.bar-index l.bars) ≡ false
