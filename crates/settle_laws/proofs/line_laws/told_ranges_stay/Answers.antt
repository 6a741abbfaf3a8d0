use Rattle.settle_laws.proofs.Told.Ended.{keeps_told}
use Rattle.settle_laws.proofs.Told.RangesStay.{parts_off, reached, range_stays, on_stands}
use Rattle.settle_laws.proofs.line_laws.told_ranges_stay.Goals as goal

pub returns : goal.returns
returns c = record {
  parts = λ q s k x so is_told stand r listed. parts_off q s k so.can (keeps_told q s k so.writes so.settles) so.forward x is_told stand r listed;
  reached = λ q s k x so is_told stand. reached q s k so.can (keeps_told q s k so.writes so.settles) so.forward x is_told stand;
  stay = λ q s k x so is_told stand either. range_stays q s k so.can (keeps_told q s k so.writes so.settles) so.forward x is_told stand either;
  on = λ q s k x so is_told told on. on_stands q s k so.can (keeps_told q s k so.writes so.settles) so.forward x is_told told on;
}
