use Rattle.std.proofs.Common.{arith}
use Rattle.pci_faults.proofs.owners.Owners.fill_up_to.Goals as goal

pub fill-requires-clause-free : goal.fill-requires-clause-free
fill-requires-clause-free g c = λ a i held. let below = c.if-first-end.true in let to = held.1 in c.requires a i held.0 (omega (arith, below, to))
