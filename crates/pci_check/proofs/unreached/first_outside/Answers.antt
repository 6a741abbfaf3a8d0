use Rattle.std.proofs.Common.{arith}
use Rattle.pci_check.proofs.Losing.{first_is_outside, reached_more}
use Rattle.pci_check.proofs.unreached.first_outside.Goals as goal

pub returns-then-is_lost : goal.returns-then-is_lost
returns-then-is_lost g c = first_is_outside c.args.reached.now _ c.args.bus c.loop-i.i c.args.regions.now _ (omega arith) c.index-regions-i.is c.loop-i.invariant c.if-is_lost.ensures

pub loop-i-preserved : goal.loop-i-preserved
loop-i-preserved g c = reached_more c.args.reached.now _ c.args.bus c.loop-i.i c.args.regions.now _ (omega arith) c.index-regions-i.is c.loop-i.invariant c.if-is_lost.ensures
