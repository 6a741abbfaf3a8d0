use Rattle.std.proofs.Common.{map, subst}
use Rattle.std.specs.List.{Contains}
use Rattle.pci_plan.specs.Comparing.{moment}
use Rattle.pci_plan.specs.Writes.{write_value}
use Rattle.pci_plan.specs.Steps.{all_shown}
use Rattle.pci_plan.specs.Going.{AreRun}
use Rattle.pci_plan.proofs.Applied.{writable}
use Rattle.pci_plan.proofs.Starts.{all_readable}
use Rattle.pci_plan.proofs.Applies.{applied, by_steps}
use Rattle.pci_plan.proofs.by_steps.apply_by_steps.Goals as goal

pub run-requires-clause-compares : goal.run-requires-clause-compares
run-requires-clause-compares g c = λ w has. all_readable c.args.moving.now.start.dump w (subst (λ cs. Contains cs w) c.requires has)

pub run-requires-clause-writes : goal.run-requires-clause-writes
run-requires-clause-writes g c = λ w has. writable c.args.moving.now c.start-start.ensures.moves w (subst (λ ws. Contains ws w) c.writes.ensures.value has)

pub returns : goal.returns
returns g c =
    let plan = c.args.moving.now in
    let before = moment (g.P.ConfigPort.targets c.args.port.now) (g.P.ConfigPort.failures c.args.port.now) in
    let after = moment (g.P.ConfigPort.targets c.run.new.port) (g.P.ConfigPort.failures c.run.new.port) in
    applied plan c.start-start.ensures.moves before after c.run.result (by_steps before plan.start.dump plan.writes after c.run.result
    (subst (λ ws. AreRun before (all_shown plan.start.dump) ws after c.run.result) c.writes.ensures.value
    (subst (λ cs. AreRun before cs (map write_value c.writes.result.now) after c.run.result) c.requires c.run.ensures)))
