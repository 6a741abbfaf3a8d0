use Rattle.settle_laws.proofs.SettlingEnds.{settled_growing_is_sound, settling_growing_can_stop, few_growing_writes_each}
use Rattle.settle_laws.proofs.growing_laws.settled_growing_is_sound.Goals as goal

pub returns-clause-sound : goal.returns-clause-sound
returns-clause-sound c = settled_growing_is_sound

pub returns-clause-stop : goal.returns-clause-stop
returns-clause-stop c = settling_growing_can_stop

pub returns-clause-few : goal.returns-clause-few
returns-clause-few c = few_growing_writes_each
