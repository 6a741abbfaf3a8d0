use Rattle.settle_laws.proofs.Told.AgainSparing.{told_sparing_settles_once, told_spares_have_room}
use Rattle.settle_laws.proofs.told_again_laws.told_sparing_settles_once.Goals as goal

pub returns-clause-once : goal.returns-clause-once
returns-clause-once c = told_sparing_settles_once

pub returns-clause-room : goal.returns-clause-room
returns-clause-room c = told_spares_have_room
