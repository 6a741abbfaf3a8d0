use Rattle.judge_spec.proofs.Kept.{slots_same}
use Rattle.judge_spec.proofs.words_laws.slots_are_kept.Goals as goal

pub returns : goal.returns
returns c = record { kept = slots_same }
