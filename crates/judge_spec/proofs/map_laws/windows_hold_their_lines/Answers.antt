use Rattle.judge_spec.proofs.Having.{window_holds}
use Rattle.judge_spec.proofs.Freeing.{run_is_free}
use Rattle.judge_spec.proofs.map_laws.windows_hold_their_lines.Goals as goal

pub returns-clause-held : goal.returns-clause-held
returns-clause-held c = λ told given roots s space w q lines system lawful is are has. window_holds told given s w q system lawful is (are.regions q has) (are.stand q has)

pub returns-clause-free : goal.returns-clause-free
returns-clause-free c = λ told given roots s space w lines a are. run_is_free told given roots s space lines a w are
