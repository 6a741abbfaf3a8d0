use Rattle.std.proofs.Common.{◌≡◌, map, max}
use Rattle.plan_spec.specs.Plan.{greatest}
use Rattle.pci_first_fit.specs.Spots.{extent_value}
use Rattle.pci_first_fit.specs.Windows.{alignments}
use Rattle.pci_first_fit.proofs.Around.{left}
use Rattle.pci_first_fit.proofs.window.alignment_around.Given as goal

abbrev pub invariant-loop-extent : goal.invariant-loop-extent
invariant-loop-extent l = max l.alignment (greatest (alignments (left l.extents l.extent-index))) ≡ max l.page (greatest (alignments (map extent_value l.extents)))
