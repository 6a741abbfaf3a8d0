use Rattle.std.proofs.Common.{◌≡◌, ◌++◌, take}
use Rattle.pci_faults.specs.Needed.{needed_among}
use Rattle.pci_faults.proofs.bars_and_roms.add_among.Given as goal

abbrev pub invariant-loop-region : goal.invariant-loop-region
invariant-loop-region g l = l.out.items ≡ l.fn.out.items ++ needed_among l.space (take l.region-index l.regions)
