use Rattle.settle_laws.proofs.Wishing.SparingOnce.{sparing_settles_once, sparing_settles_again}
use Rattle.settle_laws.proofs.sparing_laws.sparing_settles_once.Goals as goal

pub returns-clause-once : goal.returns-clause-once
returns-clause-once c = sparing_settles_once

pub returns-clause-again : goal.returns-clause-again
returns-clause-again c = sparing_settles_again
