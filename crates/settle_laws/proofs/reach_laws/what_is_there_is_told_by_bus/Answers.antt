use Rattle.settle_laws.proofs.ThereAlone.{there_alone}
use Rattle.settle_laws.proofs.ThereByBus.{there_by_bus}
use Rattle.settle_laws.proofs.reach_laws.what_is_there_is_told_by_bus.Goals as goal

pub returns-clause-bus : goal.returns-clause-bus
returns-clause-bus c = λ q s r system nested listed. there_by_bus q s system nested r listed

pub returns-clause-alone : goal.returns-clause-alone
returns-clause-alone c = λ q s told system nested tells r listed. there_alone q s system nested told tells r listed
