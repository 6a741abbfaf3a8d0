use Rattle.judge_spec.proofs.NothingTold.{same_claims_on_bus, same_told_faults, none_not_listed}
use Rattle.judge_spec.proofs.NothingToldLists.{same_told_list, same_told_text}
use Rattle.judge_spec.proofs.told_judging_laws.nothing_told_changes_no_list.Goals as goal

pub returns : goal.returns
returns c = record {
  claims = same_claims_on_bus;
  faults = same_told_faults;
  listed = none_not_listed;
  list = same_told_list;
  text = same_told_text;
}
