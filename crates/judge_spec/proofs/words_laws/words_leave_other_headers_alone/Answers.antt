use Rattle.judge_spec.proofs.HeaderLaws.{both_leave_others, cardbus_leaves_others, isa_leaves_others, others_leave_cardbus, windows_leave_others}
use Rattle.judge_spec.proofs.words_laws.words_leave_other_headers_alone.Goals as goal

pub returns : goal.returns
returns c = record {
  cardbus = cardbus_leaves_others;
  isa = isa_leaves_others;
  windows = windows_leave_others;
  both = both_leave_others;
  others = others_leave_cardbus;
}
