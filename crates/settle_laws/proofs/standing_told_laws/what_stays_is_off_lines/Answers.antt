use Rattle.settle_laws.proofs.StandingTold.Kept.{growing_off_lines}
use Rattle.settle_laws.proofs.standing_told_laws.what_stays_is_off_lines.Goals as goal

pub returns : goal.returns
returns c = record {
  standing = λ q s r x listed stay is_told keeps. keeps;
  growing = λ q s system nested low aligned forward. growing_off_lines q s system nested low aligned forward;
}
