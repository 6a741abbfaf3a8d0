use Rattle.judge_spec.proofs.NoEnables.{taken_has_no_isa_enable}
use Rattle.judge_spec.proofs.words_laws.taken_functions_have_no_isa_enable.Goals as goal

pub returns : goal.returns
returns c = record { none = taken_has_no_isa_enable }
