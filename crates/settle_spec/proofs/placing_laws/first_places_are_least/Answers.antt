use Rattle.settle_spec.specs.PlacingLaws.{OrderIsFree}
use Rattle.settle_spec.proofs.FirstSpot.{least_spot}
use Rattle.settle_spec.proofs.FirstPlace.{first_is, none_is}
use Rattle.settle_spec.proofs.SameTaken.{same_first_place}
use Rattle.settle_spec.proofs.placing_laws.first_places_are_least.Goals as goal

order_is_free : OrderIsFree
order_is_free ranges xs ys e pos same = same_first_place ranges xs ys e pos (record { to = λ t. (same t).0; back = λ t. (same t).1 })

pub returns : goal.returns
returns c = record { spot = least_spot; first = first_is; none = none_is; order = order_is_free }
