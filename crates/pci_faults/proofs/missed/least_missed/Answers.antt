use Rattle.std.proofs.Common.{arith}
use Rattle.pci_faults.proofs.Missing.{missed_here, passed_more, passed_met, passed_apart, passed_at_all}
use Rattle.pci_faults.proofs.missed.least_missed.Goals as goal
use Rattle.pci_faults.proofs.missed.least_missed.Goals.{in-Some+in_default-least_outside, in_default}

pub returns-in-Some-least_outside : goal.returns-in-Some-least_outside
returns-in-Some-least_outside c =
    missed_here c.args.range c.in-Some.m c.args.sent.now c.args.passed.now c.loop-s.s-index c.in-Some-least_outside.a _ c.requires.sent (omega arith) c.loop-s.invariant
    c.in-Some.ensures c.in-Some-least_outside.ensures

pub loop-s-preserved : goal.loop-s-preserved
loop-s-preserved c = elim c.match-meet.branch [
  | in-Some+in_default-least_outside w ↦ passed_more c.args.range c.args.sent.now c.args.passed.now c.loop-s.s-index _ (omega arith) c.loop-s.invariant
      (passed_met c.args.range _ w.in-Some.m c.args.passed.now w.in-Some.ensures w.in_default-least_outside.ensures)
  | in_default w ↦ passed_more c.args.range c.args.sent.now c.args.passed.now c.loop-s.s-index _ (omega arith) c.loop-s.invariant
      (passed_apart c.args.range _ c.args.passed.now w.in_default.ensures)
]

pub returns : goal.returns
returns c = passed_at_all c.args.range c.args.sent.now c.args.passed.now c.loop-s.s-index (omega arith) c.loop-s.invariant
