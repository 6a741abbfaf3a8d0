use Rattle.settle_laws.proofs.Holding.{holds_by_bus, holds_alone}
use Rattle.settle_laws.proofs.holding_laws.holding_is_told_once.Goals as goal

pub returns-clause-bus : goal.returns-clause-bus
returns-clause-bus c = λ q s system nested r listed. holds_by_bus q s system nested r listed

pub returns-clause-alone : goal.returns-clause-alone
returns-clause-alone c = λ q s test system nested holding r listed. holds_alone q s system nested test holding r listed
