use Rattle.settle_laws.proofs.Wishing.Refused.{spares_refuse_nothing as refuse_nothing}
use Rattle.settle_laws.proofs.sparing_laws.spares_refuse_nothing.Goals as goal

pub returns : goal.returns
returns c = refuse_nothing
