use Rattle.judge_spec.proofs.HeaderLaws.{unclaimed_leaves_others}
use Rattle.judge_spec.proofs.words_laws.unclaimed_leaves_others_alone.Goals as goal

pub returns : goal.returns
returns c = unclaimed_leaves_others
