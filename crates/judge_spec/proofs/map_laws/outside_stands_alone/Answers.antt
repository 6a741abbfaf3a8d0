use Rattle.judge_spec.proofs.Having.{outside_alone, windows_in_place, held_not_outside}
use Rattle.judge_spec.proofs.map_laws.outside_stands_alone.Goals as goal

pub returns-clause-alone : goal.returns-clause-alone
returns-clause-alone c = λ told given roots s m q is has. outside_alone told given roots s m is q has

pub returns-clause-windows : goal.returns-clause-windows
returns-clause-windows c = windows_in_place

pub returns-clause-held : goal.returns-clause-held
returns-clause-held c = λ told given roots s m x is has. held_not_outside told given roots s m is x has
