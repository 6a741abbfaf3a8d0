use Rattle.settle_laws.proofs.Standing.{stands_by_itself, stands_alone}
use Rattle.settle_laws.proofs.standing_laws.standing_is_told_once.Goals as goal

pub returns-clause-itself : goal.returns-clause-itself
returns-clause-itself c = λ q s nested. stands_by_itself q s nested

pub returns-clause-alone : goal.returns-clause-alone
returns-clause-alone c = λ q s test nested standing r listed. stands_alone q s nested test standing r listed
