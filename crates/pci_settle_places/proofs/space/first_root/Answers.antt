use Rattle.std.proofs.Common.{arith}
use Rattle.pci_settle_places.proofs.SpaceSteps.{none_set}
use Rattle.pci_settle_places.proofs.space.first_root.Goals as goal

pub returns : goal.returns
returns c = none_set c.args.roots.now.flags (λ bus low. c.loop-bus.invariant bus (omega (arith, low, c.loop-bus-test.false)))
