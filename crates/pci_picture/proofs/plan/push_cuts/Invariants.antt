use Rattle.std.proofs.Common.{◌≡◌, ◌++◌, take}
use Rattle.pci_picture.specs.Cuts.{ends_of_all_told}
use Rattle.pci_picture.proofs.plan.push_cuts.Given as goal

abbrev pub invariant-loop-range : goal.invariant-loop-range
invariant-loop-range g l = l.cuts.items ≡ l.initial.cuts.items ++ ends_of_all_told (take l.range-index l.ranges)
