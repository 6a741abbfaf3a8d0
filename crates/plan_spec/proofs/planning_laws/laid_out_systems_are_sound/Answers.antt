use Rattle.plan_spec.proofs.Planning.Home.{home_by_steps}
use Rattle.plan_spec.proofs.Planning.LaidOut.{laid_safe}
use Rattle.plan_spec.proofs.Planning.Single.{single_by_ranges}
use Rattle.plan_spec.proofs.PlanningLaws.{laid_out_is_sound, roms_can_be_on}
use Rattle.plan_spec.proofs.planning_laws.laid_out_systems_are_sound.Goals as goal

pub returns-clause-sound : goal.returns-clause-sound
returns-clause-sound c = laid_out_is_sound

pub returns-clause-roms : goal.returns-clause-roms
returns-clause-roms c = roms_can_be_on

pub returns-clause-safe : goal.returns-clause-safe
returns-clause-safe c = λ roots t pools nested decodable laid on good. laid_safe roots t pools nested decodable laid on good

pub returns-clause-home : goal.returns-clause-home
returns-clause-home c = home_by_steps

pub returns-clause-single : goal.returns-clause-single
returns-clause-single c = single_by_ranges
