use Rattle.settle_laws.proofs.JustPools.{planned_is_standing}
use Rattle.settle_laws.proofs.SettledStands.{settled_is_standing, settled_anew_is_settled}
use Rattle.settle_laws.proofs.switching_laws.plans_and_settling_lead_to_standing_systems.Goals as goal

pub returns-clause-planned : goal.returns-clause-planned
returns-clause-planned c = planned_is_standing

pub returns-clause-settled : goal.returns-clause-settled
returns-clause-settled c = λ q untold s k fixed can. settled_is_standing q untold s k can fixed

pub returns-clause-again : goal.returns-clause-again
returns-clause-again c = λ q untold s k fixed can. settled_anew_is_settled q untold s k can fixed
