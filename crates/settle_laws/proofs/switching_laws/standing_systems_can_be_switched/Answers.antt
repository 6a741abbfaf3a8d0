use Rattle.settle_laws.proofs.SwitchedStands.{enabled_is_uncut, switched_stands}
use Rattle.settle_laws.proofs.switching_laws.standing_systems_can_be_switched.Goals as goal

pub returns-clause-stand : goal.returns-clause-stand
returns-clause-stand c = switched_stands

pub returns-clause-enabled : goal.returns-clause-enabled
returns-clause-enabled c = enabled_is_uncut
