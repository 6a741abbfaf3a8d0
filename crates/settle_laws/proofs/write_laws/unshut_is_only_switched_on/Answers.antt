use Rattle.settle_laws.proofs.OnlyOpened.{only_opened, stays_on}
use Rattle.settle_laws.proofs.Staying.{stays_or_settles}
use Rattle.settle_laws.proofs.Keeping.Moves.{are_settling}
use Rattle.settle_laws.proofs.Keeping.Unchanged.{no_write}
use Rattle.settle_laws.proofs.write_laws.unshut_is_only_switched_on.Goals as goal

pub returns-clause-none : goal.returns-clause-none
returns-clause-none c = no_write

pub returns-clause-open : goal.returns-clause-open
returns-clause-open c = λ q s k system f listed keeps w has same. (only_opened q s k system f listed keeps w has same, stays_on q s k system f listed keeps)

pub returns-clause-stays : goal.returns-clause-stays
returns-clause-stays c = λ q s k can f listed keeps n. stays_or_settles q s k (are_settling q s k can) f listed keeps n
