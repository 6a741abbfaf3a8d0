use Rattle.settle_spec.proofs.Reaching.{reach_is_off_lines}
use Rattle.settle_spec.proofs.ToldStanding.{stands_off_lines, ranges_stand_in_place}
use Rattle.settle_spec.proofs.told_laws.what_stands_is_off_lines.Goals as goal

pub returns : goal.returns
returns c = record {
  parts = λ q s r x stand is_told keeps. stands_off_lines q s r x stand is_told keeps;
  ranges = λ q s x stand. ranges_stand_in_place q s x stand;
  reach = λ q s kind b x is_told can forward apart. reach_is_off_lines q s kind b x is_told can forward apart;
}
