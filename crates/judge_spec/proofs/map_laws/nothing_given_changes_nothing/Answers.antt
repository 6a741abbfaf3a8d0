use Rattle.judge_spec.proofs.Freeing.{no_run_on_root}
use Rattle.judge_spec.proofs.MapNothing.{all_in_place, nothing_outside}
use Rattle.judge_spec.proofs.map_laws.nothing_given_changes_nothing.Goals as goal

pub returns-clause-place : goal.returns-clause-place
returns-clause-place c = λ told roots s q out. all_in_place told roots s q out

pub returns-clause-left : goal.returns-clause-left
returns-clause-left c = λ told roots s q. (λ only. only.left, λ left. record { left = left; within = all_in_place told roots s q })

pub returns-clause-outside : goal.returns-clause-outside
returns-clause-outside c = λ told roots s m is. nothing_outside told roots s m is

pub returns-clause-free : goal.returns-clause-free
returns-clause-free c = λ told roots s space bus lines are. no_run_on_root told roots s space bus lines are
