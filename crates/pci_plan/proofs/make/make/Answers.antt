use Rattle.std.proofs.Common.{◌∙◌, map}
use Rattle.std.proofs.lemmas.Result.{err_from_is_err_and}
use Rattle.pci_plan.specs.Comparing.{moment}
use Rattle.pci_plan.specs.Writes.{write_value}
use Rattle.pci_plan.proofs.Makes.{at_index, stop_at, one_more}
use Rattle.pci_plan.proofs.make.make.Goals as goal

pub returns-in_err-make_one : goal.returns-in_err-make_one
returns-in_err-make_one g c =
    let items = c.args.writes.now in
    let w = c.index-writes-done.result in
    let p = err_from_is_err_and c.from_residual.result c.from_residual.ensures.1 in
    rw (p.1, p.2)
    (stop_at (moment (g.P.ConfigPort.targets c.args.port.now) (g.P.ConfigPort.failures c.args.port.now)) (map write_value items) c.loop-done.done (write_value w) (at_index items c.loop-done.done w c.loop-done-test.true c.index-writes-done.is)
    (moment (g.P.ConfigPort.targets c.loop-done.port) (g.P.ConfigPort.failures c.loop-done.port)) c.loop-done.invariant.made c.loop-done.invariant.failures
    (moment (g.P.ConfigPort.targets c.make_one.new.port) (g.P.ConfigPort.failures c.make_one.new.port)) c.in_err-make_one.field-0.0 c.in_err-make_one.ensures.stop)

pub loop-done-preserved : goal.loop-done-preserved
loop-done-preserved g c =
    let items = c.args.writes.now in
    let w = c.index-writes-done.result in
    record {
      made = one_more (moment (g.P.ConfigPort.targets c.args.port.now) (g.P.ConfigPort.failures c.args.port.now)) (map write_value items) c.loop-done.done (write_value w) (at_index items c.loop-done.done w c.loop-done-test.true c.index-writes-done.is)
          (moment (g.P.ConfigPort.targets c.loop-done.port) (g.P.ConfigPort.failures c.loop-done.port)) c.loop-done.invariant.made c.loop-done.invariant.failures
          (g.P.ConfigPort.targets c.make_one.new.port) c.in_ok-make_one.ensures.made c.in_ok-make_one.ensures.shown;
      failures = c.in_ok-make_one.ensures.counted ∙ c.loop-done.invariant.failures;
    }
