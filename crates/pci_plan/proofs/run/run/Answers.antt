use Rattle.std.proofs.Common.{arith, subst, map}
use Rattle.std.specs.declared.result.Result.TheVariants.{Ok, Err}
use Rattle.std.proofs.lemmas.List.{drop_all}
use Rattle.std.proofs.lemmas.Result.{err_from_is_err_and}
use Rattle.pci_plan.specs.Comparing.{moment}
use Rattle.pci_plan.specs.Writes.{write_value}
use Rattle.pci_plan.specs.Steps.{steps_of}
use Rattle.pci_plan.specs.Going.{code_step, AreRun}
use Rattle.pci_plan.proofs.Runs.{LeadTo, all_lead, takes_step, step_leads}
use Rattle.pci_plan.proofs.run.run.Goals as goal

pub loop-n-init : goal.loop-n-init
loop-n-init g c =
    all_lead (moment (g.P.ConfigPort.targets c.args.port.now) (g.P.ConfigPort.failures c.args.port.now)) (map write_value c.args.compares.now) (map write_value c.args.writes.now) c.requires.compares c.requires.writes

pub access-shown-requires : goal.access-shown-requires
access-shown-requires g c =
    let cs = map write_value c.args.compares.now in
    let ws = map write_value c.args.writes.now in
    takes_step (AreRun (moment (g.P.ConfigPort.targets c.args.port.now) (g.P.ConfigPort.failures c.args.port.now)) cs ws) (steps_of cs ws) c.loop-n.n (code_step c.in-Some.step)
    (moment (g.P.ConfigPort.targets c.loop-n.port) (g.P.ConfigPort.failures c.loop-n.port)) c.in-Some.ensures c.loop-n.invariant

pub loop-n-preserved : goal.loop-n-preserved
loop-n-preserved g c =
    let cs = map write_value c.args.compares.now in
    let ws = map write_value c.args.writes.now in
    step_leads (AreRun (moment (g.P.ConfigPort.targets c.args.port.now) (g.P.ConfigPort.failures c.args.port.now)) cs ws) (steps_of cs ws) c.loop-n.n (code_step c.in-Some.step)
    (moment (g.P.ConfigPort.targets c.loop-n.port) (g.P.ConfigPort.failures c.loop-n.port)) c.in-Some.ensures c.loop-n.invariant c.access-shown.result
    (moment (g.P.ConfigPort.targets c.access-shown.new.port) (g.P.ConfigPort.failures c.access-shown.new.port)) (Ok c.in_ok-judge.field-0) c.access-shown.ensures c.in_ok-judge.ensures

pub returns-in_err-judge : goal.returns-in_err-judge
returns-in_err-judge g c =
    let cs = map write_value c.args.compares.now in
    let ws = map write_value c.args.writes.now in
    let p = err_from_is_err_and c.from_residual.result c.from_residual.ensures.1 in
    rw (p.1, p.2)
    (step_leads (AreRun (moment (g.P.ConfigPort.targets c.args.port.now) (g.P.ConfigPort.failures c.args.port.now)) cs ws) (steps_of cs ws) c.loop-n.n (code_step c.in-Some.step)
    (moment (g.P.ConfigPort.targets c.loop-n.port) (g.P.ConfigPort.failures c.loop-n.port)) c.in-Some.ensures c.loop-n.invariant c.access-shown.result
    (moment (g.P.ConfigPort.targets c.access-shown.new.port) (g.P.ConfigPort.failures c.access-shown.new.port)) (Err c.in_err-judge.field-0.0) c.access-shown.ensures c.in_err-judge.ensures)

pub returns : goal.returns
returns g c =
    let cs = map write_value c.args.compares.now in
    let ws = map write_value c.args.writes.now in
    let past = c.loop-n-test.false in
    let end = c.loop-n.auto.n-end in
    let count = c.count-n-end.ensures in
    subst (λ steps. LeadTo (AreRun (moment (g.P.ConfigPort.targets c.args.port.now) (g.P.ConfigPort.failures c.args.port.now)) cs ws) steps (moment (g.P.ConfigPort.targets c.loop-n.port) (g.P.ConfigPort.failures c.loop-n.port)))
    (drop_all c.loop-n.n (steps_of cs ws) (omega (arith, past, end, count))) c.loop-n.invariant
