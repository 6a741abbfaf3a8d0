use Rattle.judge_spec.proofs.Judging.{sound_without_faults}
use Rattle.judge_spec.proofs.Naming.{empty_where_none_fails, line_where_outside}
use Rattle.judge_spec.proofs.given_laws.faults_are_what_fails.Goals as goal

pub returns : goal.returns
returns c = record {
  sound = sound_without_faults;
  empty = empty_where_none_fails;
  outside = line_where_outside;
}
