use Rattle.plan_spec.proofs.Planning.Faults.{fault_before}
use Rattle.plan_spec.proofs.PlanningLaws.{moved_is_system, moved_is_nested, moved_is_in_profile, moved_has_chains, profile_decodes}
use Rattle.plan_spec.proofs.planning_laws.moving_keeps_the_rest.Goals as goal

pub returns-clause-system : goal.returns-clause-system
returns-clause-system c = moved_is_system

pub returns-clause-nested : goal.returns-clause-nested
returns-clause-nested c = moved_is_nested

pub returns-clause-profile : goal.returns-clause-profile
returns-clause-profile c = moved_is_in_profile

pub returns-clause-chains : goal.returns-clause-chains
returns-clause-chains c = moved_has_chains

pub returns-clause-fault : goal.returns-clause-fault
returns-clause-fault c = λ roots s t system chains pairs. fault_before roots s t system chains pairs

pub returns-clause-decodes : goal.returns-clause-decodes
returns-clause-decodes c = profile_decodes
