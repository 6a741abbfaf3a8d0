use Rattle.judge_spec.proofs.NothingTold.{same_order}
use Rattle.judge_spec.proofs.ToldAdds.{told_only_adds, held_are_not_unreached, held_are_not_outside, told_claim_addresses}
use Rattle.judge_spec.proofs.told_judging_laws.told_ranges_only_add.Goals as goal

pub returns : goal.returns
returns c = record {
  adds = told_only_adds;
  unreached = held_are_not_unreached;
  outside = held_are_not_outside;
  order = same_order;
  addresses = told_claim_addresses;
}
