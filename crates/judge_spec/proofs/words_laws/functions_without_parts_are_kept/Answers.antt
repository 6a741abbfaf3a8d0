use Rattle.judge_spec.proofs.Kept.{no_parts}
use Rattle.judge_spec.proofs.words_laws.functions_without_parts_are_kept.Goals as goal

pub returns : goal.returns
returns c = record { kept = no_parts }
