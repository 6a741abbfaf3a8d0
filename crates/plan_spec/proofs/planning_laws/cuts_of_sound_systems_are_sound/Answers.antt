use Rattle.plan_spec.proofs.Planning.Safe.{safe_below}
use Rattle.plan_spec.proofs.Planning.Stop.{all_off_safe, off_claims_nothing}
use Rattle.plan_spec.proofs.PlanningLaws.{cut_is_sound, off_is_sound}
use Rattle.plan_spec.proofs.planning_laws.cuts_of_sound_systems_are_sound.Goals as goal

pub returns-clause-sound : goal.returns-clause-sound
returns-clause-sound c = cut_is_sound

pub returns-clause-off : goal.returns-clause-off
returns-clause-off c = off_is_sound

pub returns-clause-safe : goal.returns-clause-safe
returns-clause-safe c = safe_below

pub returns-clause-safe_off : goal.returns-clause-safe_off
returns-clause-safe_off c = all_off_safe

pub returns-clause-claims : goal.returns-clause-claims
returns-clause-claims c = off_claims_nothing
