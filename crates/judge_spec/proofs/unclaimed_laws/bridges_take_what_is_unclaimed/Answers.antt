use Rattle.judge_spec.proofs.Unclaimed.{nobody_shares_what_is_taken, takes_what_is_unclaimed, taking_is_determined}
use Rattle.judge_spec.proofs.unclaimed_laws.bridges_take_what_is_unclaimed.Goals as goal

pub returns : goal.returns
returns c = record { unclaimed = takes_what_is_unclaimed; alone = nobody_shares_what_is_taken; determined = taking_is_determined }
