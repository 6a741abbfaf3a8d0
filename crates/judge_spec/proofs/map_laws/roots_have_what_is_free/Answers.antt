use Rattle.judge_spec.proofs.Freeing.{run_on_root}
use Rattle.judge_spec.proofs.map_laws.roots_have_what_is_free.Goals as goal

pub returns : goal.returns
returns c = λ told given roots s space bus lines a are. run_on_root told given roots s space lines a bus are
