use Rattle.settle_answer_laws.proofs.Spared.{can_be_asked}
use Rattle.settle_answer_laws.proofs.spared_laws.told_settling_can_be_asked.Goals as goal

pub returns : goal.returns
returns c = record { asked = can_be_asked }
