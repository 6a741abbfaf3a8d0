use Rattle.judge_spec.proofs.ToldDetermined.{told_list_is_determined}
use Rattle.judge_spec.proofs.told_judging_laws.told_lists_are_determined.Goals as goal

pub returns : goal.returns
returns c = told_list_is_determined
