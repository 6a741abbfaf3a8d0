use Rattle.settle_answer_laws.proofs.Done.{done_is_settled}
use Rattle.settle_answer_laws.proofs.answer_laws.settled_answers_are_done.Goals as goal

pub returns : goal.returns
returns c = record { settled = done_is_settled }
