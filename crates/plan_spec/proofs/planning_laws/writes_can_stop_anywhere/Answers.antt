use Rattle.plan_spec.proofs.Planning.EachChanges.{each_changes, few_writes}
use Rattle.plan_spec.proofs.Planning.OnMachine.{plan_on_its_machine, stops_on_its_machine}
use Rattle.plan_spec.proofs.Planning.Reached.{writes_reach}
use Rattle.plan_spec.proofs.Planning.Stops.{plan_can_stop}
use Rattle.plan_spec.proofs.PlanningLaws.{few_writes_each}
use Rattle.plan_spec.proofs.planning_laws.writes_can_stop_anywhere.Goals as goal

pub returns-clause-stop : goal.returns-clause-stop
returns-clause-stop c = plan_can_stop

pub returns-clause-reach : goal.returns-clause-reach
returns-clause-reach c = λ changes h. writes_reach changes h.system h.moved

pub returns-clause-each : goal.returns-clause-each
returns-clause-each c = λ changes h. each_changes changes h.system h.moved

pub returns-clause-few : goal.returns-clause-few
returns-clause-few c = few_writes

pub returns-clause-few_each : goal.returns-clause-few_each
returns-clause-few_each c = few_writes_each

pub returns-clause-machine : goal.returns-clause-machine
returns-clause-machine c = plan_on_its_machine

pub returns-clause-machine_stop : goal.returns-clause-machine_stop
returns-clause-machine_stop c = stops_on_its_machine
