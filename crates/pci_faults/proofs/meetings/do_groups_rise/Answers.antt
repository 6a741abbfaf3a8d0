use Rattle.std.proofs.Common.{arith}
use Rattle.pci_faults.proofs.Owning.{risen_none, risen_more, rise_all}
use Rattle.pci_faults.proofs.meetings.do_groups_rise.Goals as goal

pub loop-k-init : goal.loop-k-init
loop-k-init g c = risen_none c.args.among c.args.claims.now 0

pub loop-k-preserved : goal.loop-k-preserved
loop-k-preserved g c =
    risen_more c.args.among c.args.claims.now c.loop-k.k c.loop-k.last c.group-next.result c.group-next.ensures.group c.group-next.ensures.slot (let up = c.if-next-last.false in omega (arith, up)) c.loop-k.invariant

pub returns : goal.returns
returns g c = λ _. rise_all c.args.among c.args.claims.now c.loop-k.k c.loop-k.last c.loop-k-test.false c.loop-k.invariant
