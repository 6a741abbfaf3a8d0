use Rattle.std.proofs.Common.{◌≡◌, map, min}
use Rattle.std.specs.List.{fold}
use Rattle.pci_first_fit.specs.Spots.{extent_value}
use Rattle.pci_first_fit.specs.Windows.{highests}
use Rattle.pci_first_fit.proofs.Around.{left}
use Rattle.pci_first_fit.proofs.window.highest_around.Given as goal

abbrev pub invariant-loop-extent : goal.invariant-loop-extent
invariant-loop-extent l = fold min l.least (highests (left l.extents l.extent-index)) ≡ fold min l.highest (highests (map extent_value l.extents))
