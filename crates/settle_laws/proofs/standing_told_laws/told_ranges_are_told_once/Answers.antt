use Rattle.settle_laws.proofs.StandingTold.Beside.{ranges_stand_beside_all}
use Rattle.settle_laws.proofs.StandingTold.Standing.{range_stands_is, ranges_stand_alone}
use Rattle.settle_laws.proofs.standing_told_laws.told_ranges_are_told_once.Goals as goal

pub returns : goal.returns
returns c = record {
  itself = λ q s x is_told. range_stands_is q s x is_told;
  alone = λ q s test standing x is_told. ranges_stand_alone q s test standing x is_told;
  beside = λ q s before x is_told. ranges_stand_beside_all q s before x is_told;
}
