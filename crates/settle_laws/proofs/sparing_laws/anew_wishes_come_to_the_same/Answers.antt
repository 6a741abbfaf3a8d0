use Rattle.settle_laws.proofs.Wishing.AgainAnew.{anew_wishes_again}
use Rattle.settle_laws.proofs.Wishing.AnewOnce.{anew_wishes_settle_once, anew_result_can_settle}
use Rattle.settle_laws.proofs.sparing_laws.anew_wishes_come_to_the_same.Goals as goal

pub returns-clause-same : goal.returns-clause-same
returns-clause-same c = anew_wishes_again

pub returns-clause-once : goal.returns-clause-once
returns-clause-once c = anew_wishes_settle_once

pub returns-clause-can : goal.returns-clause-can
returns-clause-can c = anew_result_can_settle
