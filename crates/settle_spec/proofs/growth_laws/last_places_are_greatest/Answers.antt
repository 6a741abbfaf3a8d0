use Rattle.settle_spec.proofs.LastSpot.{last_is, last_by, last_none, last_by_none}
use Rattle.settle_spec.proofs.growth_laws.last_places_are_greatest.Goals as goal

pub returns : goal.returns
returns c = record {
  last = λ r taken e a pos some. (last_is r taken e pos some a, last_by r taken e pos some a);
  none = λ r taken e pos some. (last_none r taken e pos some, last_by_none r taken e pos some);
}
