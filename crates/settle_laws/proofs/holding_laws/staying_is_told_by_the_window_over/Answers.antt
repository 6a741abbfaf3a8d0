use Rattle.settle_laws.proofs.Holding.{stays_on_root, stays_by_bus}
use Rattle.settle_laws.proofs.holding_laws.staying_is_told_by_the_window_over.Goals as goal

pub returns-clause-root : goal.returns-clause-root
returns-clause-root c = λ q s r system nested root. stays_on_root q s system nested r root

pub returns-clause-behind : goal.returns-clause-behind
returns-clause-behind c = λ q s r b system nested leads. stays_by_bus q s system nested r b leads
