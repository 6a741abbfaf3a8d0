use Rattle.judge_spec.proofs.ToldInputs.{told_text_is_good, told_beginnings_are_good, input_is_told_or_has_fault, input_has_one_told_fault, told_text_has_no_fault}
use Rattle.judge_spec.proofs.told_laws.inputs_have_one_told_fault.Goals as goal

pub returns : goal.returns
returns c = record {
  good = told_text_is_good;
  beginnings = told_beginnings_are_good;
  some = input_is_told_or_has_fault;
  one = input_has_one_told_fault;
  none = told_text_has_no_fault;
}
