use Rattle.settle_laws.proofs.StandingTold.Beside.{ranges_apart, ranges_off_parts, parts_share_with_off}
use Rattle.settle_laws.proofs.standing_told_laws.told_ranges_are_apart.Goals as goal

pub returns : goal.returns
returns c = record {
  ranges = λ q s x y in_x in_y stand_x stand_y beside differ. ranges_apart q s x y in_x in_y stand_x stand_y beside differ;
  parts = λ q s r x listed is_told stand range beside. ranges_off_parts q s r x listed is_told stand range beside;
  off = λ q s r x listed is_told stand told shares. parts_share_with_off q s r x listed is_told stand told shares;
}
