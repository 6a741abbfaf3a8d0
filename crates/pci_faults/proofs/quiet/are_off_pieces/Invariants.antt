use Rattle.std.proofs.Common.{take}
use Rattle.std.specs.List.{All}
use Rattle.pci_faults.specs.Quiet.{IsOff}
use Rattle.pci_faults.proofs.quiet.are_off_pieces.Given as goal

abbrev pub invariant-loop-region : goal.invariant-loop-region
invariant-loop-region l = All (IsOff l.bridge l.pieces) (take l.region-index l.regions)
