use Rattle.plan_spec.proofs.Planning.Behind.{behind_is_need}
use Rattle.plan_spec.proofs.Planning.Needs.{items_by_behind}
use Rattle.plan_spec.proofs.Planning.Placement.{window_holds}
use Rattle.plan_spec.proofs.Planning.Safe.{slots_of, order_of}
use Rattle.plan_spec.proofs.Planning.Sums.{need_added}
use Rattle.plan_spec.proofs.PlanningLaws.{window_is_least_power}
use Rattle.plan_spec.proofs.planning_laws.windows_hold_what_is_behind.Goals as goal

pub returns-clause-least : goal.returns-clause-least
returns-clause-least c = window_is_least_power

pub returns-clause-holds : goal.returns-clause-holds
returns-clause-holds c = window_holds

pub returns-clause-items : goal.returns-clause-items
returns-clause-items c = λ roots s pools k system nested bus. items_by_behind s pools k (slots_of s system) (order_of roots s nested) bus

pub returns-clause-slots : goal.returns-clause-slots
returns-clause-slots c = λ roots s pools k bus system nested. need_added s pools k bus roots system nested

pub returns-clause-behind : goal.returns-clause-behind
returns-clause-behind c = behind_is_need
