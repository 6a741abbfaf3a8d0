use Rattle.judge_spec.proofs.Unclaimed.{taking_claims_nothing, taking_comes_last, taking_leaves_forwards, taking_leaves_passes}
use Rattle.judge_spec.proofs.unclaimed_laws.taking_leaves_others_alone.Goals as goal

pub returns : goal.returns
returns c = record { claims = taking_claims_nothing; last = taking_comes_last; forwards = taking_leaves_forwards; passes = taking_leaves_passes }
