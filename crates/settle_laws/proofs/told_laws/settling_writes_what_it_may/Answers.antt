use Rattle.settle_laws.proofs.Told.Settling.{fixed_is_not_written, settling_moves}
use Rattle.settle_laws.proofs.Told.Wished.{told_few_writes}
use Rattle.settle_laws.proofs.told_laws.settling_writes_what_it_may.Goals as goal

pub returns-clause-few : goal.returns-clause-few
returns-clause-few c = told_few_writes

pub returns-clause-fixed : goal.returns-clause-fixed
returns-clause-fixed c = fixed_is_not_written

pub returns-clause-moved : goal.returns-clause-moved
returns-clause-moved c = settling_moves
