use Rattle.judge_spec.proofs.Determined.{why_is_determined, known_why_is_determined, plain_why_is_determined}
use Rattle.judge_spec.proofs.determined_laws.reasons_are_determined.Goals as goal

pub returns : goal.returns
returns c = record {
  why = why_is_determined;
  known = known_why_is_determined;
  plain = plain_why_is_determined;
}
