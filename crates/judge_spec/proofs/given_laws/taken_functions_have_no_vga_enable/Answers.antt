use Rattle.judge_spec.proofs.Taken.{no_vga_enable}
use Rattle.judge_spec.proofs.given_laws.taken_functions_have_no_vga_enable.Goals as goal

pub returns : goal.returns
returns c = record { none = no_vga_enable }
