use Rattle.std.proofs.Common.{take}
use Rattle.pci_faults.proofs.Quieting.{AreBelow}
use Rattle.pci_faults.proofs.quiet.are_apart.Given as goal

abbrev pub invariant-loop-region : goal.invariant-loop-region
invariant-loop-region l = AreBelow l.end (take l.region-index l.regions)
