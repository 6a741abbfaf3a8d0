use Rattle.settle_answer_laws.proofs.Stops.{answers_can_stop, given_stays}
use Rattle.settle_answer_laws.proofs.answer_laws.answers_can_stop.Goals as goal

pub returns : goal.returns
returns c = record { stops = answers_can_stop; given = given_stays }
