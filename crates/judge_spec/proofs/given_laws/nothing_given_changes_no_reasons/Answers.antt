use Rattle.judge_spec.proofs.PlainTexts.{same_text}
use Rattle.judge_spec.proofs.Reasons.{same_why}
use Rattle.judge_spec.proofs.given_laws.nothing_given_changes_no_reasons.Goals as goal

pub returns : goal.returns
returns c = record { why = same_why; text = same_text }
