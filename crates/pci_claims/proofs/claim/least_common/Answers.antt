use Rattle.std.proofs.Common.{arith}
use Rattle.pci_claims.proofs.Claiming.{none_more, none_at_all, none_here, none_from, common_here, apart_around}
use Rattle.pci_claims.proofs.claim.least_common.Goals as goal
use Rattle.pci_claims.proofs.claim.least_common.Goals.{then-is_below-via-then-is_below, then-is_below-via-else-is_below+then-is_below-2, in-Some+else-a-r, in_default}

pub returns-then-is_below : goal.returns-then-is_below
returns-then-is_below c = elim c.then-is_below.branch [
  | then-is_below-via-then-is_below w ↦ c.is_below.ensures w.if-is_below.true
  | then-is_below-via-else-is_below+then-is_below-2 w ↦ apart_around c.args.rs.now c.args.ss.now (w.is_below-else-is_below.ensures w.if-is_below-2.true)
]

pub returns-then-a-r : goal.returns-then-a-r
returns-then-a-r c = common_here c.args.rs.now c.args.ss.now c.loop-r.r-index c.in-Some.a _ c.requires.first (omega arith) c.loop-r.invariant c.in-Some.ensures c.if-a-r.true

pub loop-r-preserved : goal.loop-r-preserved
loop-r-preserved c = elim c.match-least_from.branch [
  | in-Some+else-a-r w ↦ none_more c.args.rs.now c.args.ss.now c.loop-r.r-index _ (omega arith) c.loop-r.invariant (none_here c.args.ss.now _ w.in-Some.a w.in-Some.ensures w.if-a-r.false)
  | in_default w ↦ none_more c.args.rs.now c.args.ss.now c.loop-r.r-index _ (omega arith) c.loop-r.invariant (none_from c.args.ss.now _ w.in_default.ensures)
]

pub returns : goal.returns
returns c = none_at_all c.args.rs.now c.args.ss.now c.loop-r.r-index (omega arith) c.loop-r.invariant
