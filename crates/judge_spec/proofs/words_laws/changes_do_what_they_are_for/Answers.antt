use Rattle.judge_spec.proofs.Changes.{off_claims_nothing, off_shows_no_state, out_of_reset_is, positive_is, device_leads_nowhere}
use Rattle.judge_spec.proofs.words_laws.changes_do_what_they_are_for.Goals as goal

pub returns : goal.returns
returns c = record {
  off = off_claims_nothing;
  state = off_shows_no_state;
  reset = out_of_reset_is;
  positive = positive_is;
  device = device_leads_nowhere;
}
