use Rattle.plan_spec.proofs.Planning.Planned.{planned_by_table, sound_by_table}
use Rattle.plan_spec.proofs.Planning.Rooms.{table_by_fit}
use Rattle.plan_spec.proofs.PlanningLaws.{places_are_a_table, planned_numbers_are_final}
use Rattle.plan_spec.proofs.planning_laws.placing_makes_sound_systems.Goals as goal

pub returns-clause-places : goal.returns-clause-places
returns-clause-places c = places_are_a_table

pub returns-clause-fits : goal.returns-clause-fits
returns-clause-fits c = λ roots s pools k first system nested fit low placing. table_by_fit roots s pools k system nested first fit low placing

pub returns-clause-plans : goal.returns-clause-plans
returns-clause-plans c = λ roots s t pools first system nested decodable shown tables on. planned_by_table roots s t pools system nested decodable first shown tables on

pub returns-clause-sound : goal.returns-clause-sound
returns-clause-sound c = λ roots s t pools first system nested profile chains decodable shown tables on good. sound_by_table roots s t pools system nested decodable first shown tables on profile chains good

pub returns-clause-planned : goal.returns-clause-planned
returns-clause-planned c = planned_numbers_are_final
