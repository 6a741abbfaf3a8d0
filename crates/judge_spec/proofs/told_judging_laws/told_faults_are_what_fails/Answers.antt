use Rattle.judge_spec.proofs.ToldEmpty.{told_empty_where_none_fails}
use Rattle.judge_spec.proofs.ToldSounding.{told_sound_without_faults}
use Rattle.judge_spec.proofs.told_judging_laws.told_faults_are_what_fails.Goals as goal

pub returns : goal.returns
returns c = record { empty = told_empty_where_none_fails; sound = told_sound_without_faults }
