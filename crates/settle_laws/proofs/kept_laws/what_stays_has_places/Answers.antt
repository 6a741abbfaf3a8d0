use Rattle.settle_laws.proofs.SoundKept.{standing_is_sound, growing_is_sound}
use Rattle.settle_laws.proofs.kept_laws.what_stays_has_places.Goals as goal

pub returns-clause-standing : goal.returns-clause-standing
returns-clause-standing c = standing_is_sound

pub returns-clause-growing : goal.returns-clause-growing
returns-clause-growing c = growing_is_sound
