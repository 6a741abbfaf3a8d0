use Rattle.settle_laws.proofs.Told.Ended.{keeps_told}
use Rattle.settle_laws.proofs.Told.HeldAtStops.{staying_holds, passes_at_stop}
use Rattle.settle_laws.proofs.line_laws.what_is_held_stays_so_at_each_stop.Goals as goal

pub returns : goal.returns
returns c = record {
  windows = λ q s k kind b n can listed bridge keeps. staying_holds q s k can b listed bridge kind keeps n;
  always = λ q s k x b n so is_told always stand above. passes_at_stop q s k so.can (keeps_told q s k so.writes so.settles) x is_told always stand b above n;
}
