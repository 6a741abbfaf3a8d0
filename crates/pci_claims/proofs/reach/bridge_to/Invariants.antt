use Rattle.std.proofs.Common.{take}
use Rattle.pci_claims.proofs.ToBus.{NoneLeads}
use Rattle.pci_claims.proofs.reach.bridge_to.Given as goal

abbrev pub invariant-loop-function : goal.invariant-loop-function
invariant-loop-function l = NoneLeads (take l.function-index l.records) l.bus
