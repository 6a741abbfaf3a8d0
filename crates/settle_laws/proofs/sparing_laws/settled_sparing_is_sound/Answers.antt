use Rattle.settle_laws.proofs.Wishing.Sparing.{settled_sparing_is_sound as sound, settling_sparing_can_stop}
use Rattle.settle_laws.proofs.sparing_laws.settled_sparing_is_sound.Goals as goal

pub returns-clause-sound : goal.returns-clause-sound
returns-clause-sound c = sound

pub returns-clause-stop : goal.returns-clause-stop
returns-clause-stop c = settling_sparing_can_stop
