use Rattle.settle_laws.proofs.Told.NothingSettled.{begun, start_stays, start_unwritten, start_settles, grown_stays, grown_unwritten, nothing_grows, nothing_spared}
use Rattle.settle_laws.proofs.Told.QuietStart.{needs_nothing, all_stand}
use Rattle.settle_laws.proofs.line_laws.told_starts_are_settled.Goals as goal

pub returns : goal.returns
returns c = record {
  quiet = λ q s quiet. (needs_nothing q s quiet, all_stand q s quiet);
  stays = λ q s start. (start_stays q s (begun q s start), start_unwritten q s (begun q s start), grown_stays q s (begun q s start), grown_unwritten q s (begun q s start));
  nothing = λ q s start fine. (start_settles q s (begun q s start) fine, nothing_grows q s (begun q s start) fine, λ none. nothing_spared q s (begun q s start) fine none);
}
