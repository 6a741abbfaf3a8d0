use Rattle.judge_spec.proofs.Having.{nothing_is_taken, taken_is_unclaimed}
use Rattle.judge_spec.proofs.map_laws.taken_lines_are_unclaimed.Goals as goal

pub returns-clause-unclaimed : goal.returns-clause-unclaimed
returns-clause-unclaimed c = taken_is_unclaimed

pub returns-clause-none : goal.returns-clause-none
returns-clause-none c = nothing_is_taken
