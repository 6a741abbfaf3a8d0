use Rattle.std.proofs.Common.{◌+◌, ap}
use Rattle.pci_claims.specs.Gaps.{gaps}
use Rattle.pci_claims.proofs.Between.{gap_more, gap_all}
use Rattle.pci_claims.proofs.gaps.free_runs.Goals as goal

pub loop-claim-preserved : goal.loop-claim-preserved
loop-claim-preserved g c =
    gap_more c.args.range c.args.claimed.now c.loop-claim.claim-index c.loop-claim.from c.from.result c.from-in-loop-claim.result _
    c.loop-claim.out.items c.add_between.new.out.items (gaps c.args.range 0 c.args.claimed.now) c.max-from.result c.loop-claim-test.true
    c.from.ensures c.from-in-loop-claim.ensures c.max-from.ensures c.in_ok-add_between.ensures c.loop-claim.invariant

pub returns : goal.returns
returns g c =
    gap_all c.args.range c.args.claimed.now c.loop-claim.claim-index c.loop-claim.from (c.from-2.result + 1) c.loop-claim.out.items c.add_between-2.new.out.items
    (gaps c.args.range 0 c.args.claimed.now) c.loop-claim-test.false (ap (λ n. n + 1) c.from-2.ensures) c.in_ok-add_between-2.ensures c.loop-claim.invariant
