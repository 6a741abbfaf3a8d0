use Rattle.judge_spec.proofs.Unclaimed.{taking_adds_no_clash}
use Rattle.judge_spec.proofs.unclaimed_laws.taking_adds_no_clash.Goals as goal

pub returns : goal.returns
returns c = taking_adds_no_clash
