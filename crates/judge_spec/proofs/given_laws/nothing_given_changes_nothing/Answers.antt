use Rattle.judge_spec.proofs.Nothing.{starts_anywhere, same_claims, no_legacy_claims, no_palette_claims, same_forwards, same_passes, same_gets, same_passed_to, none_outside, same_faults}
use Rattle.judge_spec.proofs.Judging.{same_sound}
use Rattle.judge_spec.proofs.given_laws.nothing_given_changes_nothing.Goals as goal

pub returns : goal.returns
returns c = record {
  starts = starts_anywhere;
  claims = same_claims;
  legacy = no_legacy_claims;
  palette = no_palette_claims;
  forwards = same_forwards;
  passes = same_passes;
  gets = same_gets;
  passed = same_passed_to;
  outside = none_outside;
  faults = same_faults;
  sound = same_sound;
}
