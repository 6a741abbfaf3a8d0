use Rattle.settle_laws.proofs.Wishing.Answered.{spares_are_answered}
use Rattle.settle_laws.proofs.Wishing.Refused.{spares_have_room as have_room}
use Rattle.settle_laws.proofs.sparing_laws.spares_have_room.Goals as goal

pub returns-clause-room : goal.returns-clause-room
returns-clause-room c = have_room

pub returns-clause-answered : goal.returns-clause-answered
returns-clause-answered c = spares_are_answered
