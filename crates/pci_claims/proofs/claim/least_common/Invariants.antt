use Rattle.std.proofs.Common.{take}
use Rattle.pci_claims.proofs.Claiming.{NoneCommon}
use Rattle.pci_claims.proofs.claim.least_common.Given as goal

abbrev pub invariant-loop-r : goal.invariant-loop-r
invariant-loop-r l = NoneCommon (take l.r-index l.rs) l.ss
