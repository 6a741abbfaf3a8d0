use Rattle.std.proofs.Common.{◌≡◌, ◌++◌, take}
use Rattle.pci_picture.specs.Cuts.{ends_of_kind}
use Rattle.pci_picture.proofs.plan.push_ends.Given as goal

abbrev pub invariant-loop-region : goal.invariant-loop-region
invariant-loop-region g l = l.cuts.items ≡ l.initial.cuts.items ++ ends_of_kind l.fn.of_windows (take l.region-index l.regions)
