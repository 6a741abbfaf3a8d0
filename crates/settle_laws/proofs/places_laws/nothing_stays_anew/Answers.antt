use Rattle.settle_spec.proofs.Anew.{none_stays}
use Rattle.settle_laws.proofs.places_laws.nothing_stays_anew.Goals as goal

pub returns : goal.returns
returns c = λ q s untold anew r. none_stays q s anew untold r
