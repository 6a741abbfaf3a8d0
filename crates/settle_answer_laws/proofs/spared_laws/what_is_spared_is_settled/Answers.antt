use Rattle.settle_answer_laws.proofs.Spared.{spared_can_settle, spared_is_settled}
use Rattle.settle_answer_laws.proofs.spared_laws.what_is_spared_is_settled.Goals as goal

pub returns : goal.returns
returns c = record { can = spared_can_settle; settled = spared_is_settled }
