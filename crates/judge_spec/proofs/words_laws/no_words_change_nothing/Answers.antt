use Rattle.judge_spec.proofs.Kept.{all_same}
use Rattle.judge_spec.proofs.words_laws.no_words_change_nothing.Goals as goal

pub returns : goal.returns
returns c = record { same = all_same }
