use Rattle.std.proofs.Common.{arith}
use Rattle.pci_tree.proofs.Passing.{below_next, reach_more}
use Rattle.pci_tree.proofs.forwarded.passed_on.Goals as goal

pub add_passed-requires-clause-below : goal.add_passed-requires-clause-below
add_passed-requires-clause-below g c a h = below_next _ c.loop-r.r-index a _ c.requires.canonical (omega arith) ((c.loop-r.invariant.exact a).0 h).0

pub loop-r-preserved : goal.loop-r-preserved
loop-r-preserved g c = reach_more _ _ _ c.loop-r.r-index _ _ (omega arith) c.loop-r.invariant c.in_ok-add_passed.ensures
