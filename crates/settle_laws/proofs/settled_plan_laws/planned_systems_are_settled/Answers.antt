use Rattle.settle_laws.proofs.JustPools.{planned_is_settled, planned_is_settled_in_its_pools}
use Rattle.settle_laws.proofs.ShownPlaces.{plan_is_laid_out}
use Rattle.settle_laws.proofs.settled_plan_laws.planned_systems_are_settled.Goals as goal

pub returns-clause-laid_out : goal.returns-clause-laid_out
returns-clause-laid_out c = λ roots s t pools ws n plannable rising plan. plan_is_laid_out roots s t pools plannable rising plan.planned plan.placed

pub returns-clause-settled : goal.returns-clause-settled
returns-clause-settled c = planned_is_settled

pub returns-clause-pools : goal.returns-clause-pools
returns-clause-pools c = planned_is_settled_in_its_pools
