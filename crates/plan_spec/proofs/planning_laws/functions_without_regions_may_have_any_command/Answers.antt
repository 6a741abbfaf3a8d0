use Rattle.plan_spec.proofs.Planning.Idle.{no_region_holds_nothing, idle_claim_nothing}
use Rattle.plan_spec.proofs.PlanningLaws.{idle_command_is_free}
use Rattle.plan_spec.proofs.planning_laws.functions_without_regions_may_have_any_command.Goals as goal

pub returns-clause-empty : goal.returns-clause-empty
returns-clause-empty c = no_region_holds_nothing

pub returns-clause-claims : goal.returns-clause-claims
returns-clause-claims c = idle_claim_nothing

pub returns-clause-sound : goal.returns-clause-sound
returns-clause-sound c = idle_command_is_free
