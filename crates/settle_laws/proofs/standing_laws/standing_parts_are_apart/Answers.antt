use Rattle.settle_laws.proofs.Apart.{apart_where_beside, in_root_lists, in_window_over}
use Rattle.settle_laws.proofs.standing_laws.standing_parts_are_apart.Goals as goal

pub returns-clause-apart : goal.returns-clause-apart
returns-clause-apart c = λ q s r t nested in_r in_t stands_r stands_t beside differ. apart_where_beside q s r t nested in_r in_t stands_r stands_t beside differ

pub returns-clause-root : goal.returns-clause-root
returns-clause-root c = λ q s r nested listed is root. in_root_lists q s nested r listed is root

pub returns-clause-window : goal.returns-clause-window
returns-clause-window c = λ q s r b system nested listed is off leads. in_window_over q s nested r listed is b system off leads
