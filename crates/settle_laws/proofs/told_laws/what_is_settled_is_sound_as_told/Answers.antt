use Rattle.settle_laws.proofs.Told.Settling.{settled_can_settle, settled_standing_is_sound, settled_growing_is_sound, settled_sparing_is_sound}
use Rattle.settle_laws.proofs.told_laws.what_is_settled_is_sound_as_told.Goals as goal

pub returns-clause-can : goal.returns-clause-can
returns-clause-can c = settled_can_settle

pub returns-clause-standing : goal.returns-clause-standing
returns-clause-standing c = settled_standing_is_sound

pub returns-clause-growing : goal.returns-clause-growing
returns-clause-growing c = settled_growing_is_sound

pub returns-clause-sparing : goal.returns-clause-sparing
returns-clause-sparing c = settled_sparing_is_sound
