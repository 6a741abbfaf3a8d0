use Rattle.judge_spec.proofs.Moving.{no_fault, no_fault_of_others, no_plain_fault}
use Rattle.judge_spec.proofs.moved_laws.what_fits_has_no_fault.Goals as goal

pub returns : goal.returns
returns c = record {
  given = no_fault;
  others = no_fault_of_others;
  plain = no_plain_fault;
}
