use Rattle.settle_spec.proofs.MoreTaken.{none_before, none_stays}
use Rattle.settle_spec.proofs.placing_laws.later_places_are_not_before.Goals as goal

pub returns : goal.returns
returns c = record { before = none_before; none = none_stays }
