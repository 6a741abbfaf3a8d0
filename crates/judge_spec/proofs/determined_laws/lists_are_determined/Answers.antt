use Rattle.judge_spec.proofs.DeterminedTexts.{list_is_determined, plain_list_is_determined, plain_text_is_determined}
use Rattle.judge_spec.proofs.ListTexts.{text_is_determined}
use Rattle.judge_spec.proofs.determined_laws.lists_are_determined.Goals as goal

pub returns : goal.returns
returns c = record {
  list = list_is_determined;
  plain_list = plain_list_is_determined;
  text = text_is_determined;
  plain_text = plain_text_is_determined;
}
