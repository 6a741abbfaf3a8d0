use Rattle.plan_spec.proofs.Planning.Room.{raised, room_of_fit}
use Rattle.plan_spec.proofs.PlanningLaws.{largest_first_is_aligned, placed_fills_its_range, placed_takes_once}
use Rattle.plan_spec.proofs.planning_laws.largest_first_leaves_no_gap.Goals as goal

pub returns-clause-aligned : goal.returns-clause-aligned
returns-clause-aligned c = largest_first_is_aligned

pub returns-clause-filled : goal.returns-clause-filled
returns-clause-filled c = placed_fills_its_range

pub returns-clause-once : goal.returns-clause-once
returns-clause-once c = placed_takes_once

pub returns-clause-start : goal.returns-clause-start
returns-clause-start c = raised

pub returns-clause-room : goal.returns-clause-room
returns-clause-room c = room_of_fit
