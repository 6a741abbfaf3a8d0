use Rattle.judge_spec.proofs.Asleep.{asleep_are_determined, asleep_are_listed, none_is_asleep}
use Rattle.judge_spec.proofs.words_laws.sleepers_are_listed.Goals as goal

pub returns : goal.returns
returns c = record { determined = asleep_are_determined; listed = asleep_are_listed; without = none_is_asleep }
