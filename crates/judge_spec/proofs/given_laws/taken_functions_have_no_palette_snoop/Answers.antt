use Rattle.judge_spec.proofs.Taken.{no_palette_snoop}
use Rattle.judge_spec.proofs.given_laws.taken_functions_have_no_palette_snoop.Goals as goal

pub returns : goal.returns
returns c = record { none = no_palette_snoop }
