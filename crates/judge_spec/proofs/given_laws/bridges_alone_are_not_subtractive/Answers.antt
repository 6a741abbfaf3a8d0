use Rattle.judge_spec.proofs.Taken.{alone_is_not_subtractive}
use Rattle.judge_spec.proofs.given_laws.bridges_alone_are_not_subtractive.Goals as goal

pub returns : goal.returns
returns c = alone_is_not_subtractive
