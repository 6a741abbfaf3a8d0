use Rattle.std.proofs.Common.{arith}
use Rattle.pci_tree.proofs.Passing.{below_next}
use Rattle.pci_claims.proofs.Gathering.{common_more}
use Rattle.pci_claims.proofs.gather.common.Goals as goal

pub add_common-requires-clause-below : goal.add_common-requires-clause-below
add_common-requires-clause-below g c a h = below_next _ c.loop-r.r-index a _ c.requires.first (omega arith) ((c.loop-r.invariant.exact a).0 h).0

pub loop-r-preserved : goal.loop-r-preserved
loop-r-preserved g c = common_more _ c.args.ss.now _ _ c.loop-r.r-index _ (omega arith) c.loop-r.invariant c.in_ok-add_common.ensures
