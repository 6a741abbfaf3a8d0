use Rattle.settle_laws.proofs.Told.Always.{always_is_reached}
use Rattle.settle_laws.proofs.Told.Sound.{told_sound}
use Rattle.settle_laws.proofs.Told.Stops.{told_stops}
use Rattle.settle_laws.proofs.told_laws.settled_is_sound_as_told.Goals as goal

pub returns-clause-sound : goal.returns-clause-sound
returns-clause-sound c = told_sound

pub returns-clause-stop : goal.returns-clause-stop
returns-clause-stop c = told_stops

pub returns-clause-always : goal.returns-clause-always
returns-clause-always c = always_is_reached
