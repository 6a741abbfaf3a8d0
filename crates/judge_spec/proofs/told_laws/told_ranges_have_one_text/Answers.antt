use Rattle.judge_spec.proofs.ToldInputs.{told_have_text, told_have_one_text, text_tells_one_row}
use Rattle.judge_spec.proofs.told_laws.told_ranges_have_one_text.Goals as goal

pub returns : goal.returns
returns c = record { some = told_have_text; one = told_have_one_text; back = text_tells_one_row }
