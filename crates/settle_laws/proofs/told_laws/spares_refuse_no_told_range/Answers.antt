use Rattle.settle_laws.proofs.Told.Wished.{told_spares_refuse_no_more, told_wished_is_settled, told_spares_refuse_nothing}
use Rattle.settle_laws.proofs.told_laws.spares_refuse_no_told_range.Goals as goal

pub returns-clause-settled : goal.returns-clause-settled
returns-clause-settled c = told_spares_refuse_no_more

pub returns-clause-wished : goal.returns-clause-wished
returns-clause-wished c = told_wished_is_settled

pub returns-clause-refused : goal.returns-clause-refused
returns-clause-refused c = told_spares_refuse_nothing
