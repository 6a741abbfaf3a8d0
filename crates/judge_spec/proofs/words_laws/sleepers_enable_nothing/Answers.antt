use Rattle.judge_spec.proofs.Asleep.{asleep_enable_nothing}
use Rattle.judge_spec.proofs.words_laws.sleepers_enable_nothing.Goals as goal

pub returns : goal.returns
returns c = record { off = asleep_enable_nothing }
