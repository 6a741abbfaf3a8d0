use Rattle.judge_spec.proofs.ModelSnoop.{taken_has_no_palette_snoop}
use Rattle.judge_spec.proofs.words_laws.taken_functions_have_no_palette_snoop.Goals as goal

pub returns : goal.returns
returns c = record { none = taken_has_no_palette_snoop }
