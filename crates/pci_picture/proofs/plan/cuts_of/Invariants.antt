use Rattle.std.proofs.Common.{◌≡◌, map, take}
use Rattle.pci_picture.specs.Cuts.{cut_of_region}
use Rattle.pci_picture.proofs.plan.cuts_of.Given as goal

abbrev pub invariant-loop-region : goal.invariant-loop-region
invariant-loop-region g l = l.cuts.items ≡ map cut_of_region (take l.region-index l.regions)
