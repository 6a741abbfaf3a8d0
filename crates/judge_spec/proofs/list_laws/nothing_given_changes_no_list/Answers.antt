use Rattle.judge_spec.proofs.PlainLists.{same_list, first_of_list_is_first}
use Rattle.judge_spec.proofs.PlainTexts.{same_text_of_all}
use Rattle.judge_spec.proofs.list_laws.nothing_given_changes_no_list.Goals as goal

pub returns : goal.returns
returns c = record {
  list = same_list;
  text = same_text_of_all;
  first = first_of_list_is_first;
}
