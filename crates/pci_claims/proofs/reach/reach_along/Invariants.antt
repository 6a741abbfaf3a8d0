use Rattle.std.proofs.Common.{take}
use Rattle.pci_claims.specs.Values.{code_given_value}
use Rattle.pci_claims.specs.Reached.{IsReachAlong}
use Rattle.pci_claims.proofs.reach.reach_along.Given as goal

abbrev pub invariant-loop-slot : goal.invariant-loop-slot
invariant-loop-slot g l = IsReachAlong (code_given_value l.given) l.through l.records l.way.root (take l.slot-index l.way.bridges.now) l.reach.items
