use Rattle.judge_spec.proofs.Writing.{written_is_moved}
use Rattle.judge_spec.proofs.moved_laws.what_is_written_is_moved.Goals as goal

pub returns : goal.returns
returns c = written_is_moved
