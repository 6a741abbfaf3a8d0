use Rattle.std.proofs.Common.{take}
use Rattle.pci_claims.specs.Gathered.{IsCommon}
use Rattle.pci_claims.proofs.gather.common.Given as goal

abbrev pub invariant-loop-r : goal.invariant-loop-r
invariant-loop-r g l = IsCommon (take l.r-index l.rs) l.ss l.out.items
