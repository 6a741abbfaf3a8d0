use Rattle.std.proofs.Common.{refl, arith}
use Rattle.std.proofs.lemmas.List.{drop_more}
use Rattle.pci_map.specs.Walk.{ahead}
use Rattle.pci_map.proofs.Counts.{count_here, count_more, count_all}
use Rattle.pci_map.proofs.walk.count_before.Goals as goal

pub returns-then-end-run-clause-count : goal.returns-then-end-run-clause-count
returns-then-end-run-clause-count c =
    count_here c.args.end c.loop-run.run-index c.args.runs.now c.loop-run.count (ahead c.args.end c.args.runs.now) c.loop-run.invariant.counted c.loop-run.invariant.so
    _ _ (drop_more c.args.runs.now c.loop-run.run-index (record { first = 0; last = 0 }) c.loop-run-test.true) refl c.if-end-run.true

pub loop-run-preserved : goal.loop-run-preserved
loop-run-preserved c = record {
  counted = (let e = c.loop-run.invariant.counted in omega (arith, e));
  so =
      count_more c.args.end c.loop-run.run-index c.args.runs.now c.loop-run.count (ahead c.args.end c.args.runs.now) c.loop-run.invariant.counted c.loop-run.invariant.so
      _ _ (drop_more c.args.runs.now c.loop-run.run-index (record { first = 0; last = 0 }) c.loop-run-test.true) refl c.if-end-run.false;
}

pub returns-clause-count : goal.returns-clause-count
returns-clause-count c =
    count_all c.args.end c.loop-run.run-index c.args.runs.now c.loop-run.count (ahead c.args.end c.args.runs.now) c.loop-run.invariant.counted c.loop-run.invariant.so c.loop-run-test.false
