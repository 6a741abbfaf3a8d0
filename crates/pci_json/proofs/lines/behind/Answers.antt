use Rattle.std.proofs.Common.{rules, arith, ◌≡◌}
use Rattle.pci_json.proofs.Cuts.{behind_next, behind_none}
use Rattle.pci_json.proofs.lines.behind.Goals as goal

pub loop-preserved : goal.loop-preserved
loop-preserved c =
    let next = behind_next c.args.words c.loop.counter c.loop.rest.now c.loop-test.true in
    record { text = search rules; left = cc (next, c.behind_first-rest.ensures, c.loop.invariant.left) }

pub returns : goal.returns
returns c =
    let done : c.loop.counter ≡ c.args.words = omega arith in
    cc (done, behind_none c.args.words c.loop.rest.now, c.loop.invariant.left)
