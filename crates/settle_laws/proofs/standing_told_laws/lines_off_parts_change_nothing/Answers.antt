use Rattle.settle_laws.proofs.StandingTold.Untold.{stand_as_untold}
use Rattle.settle_laws.proofs.standing_told_laws.lines_off_parts_change_nothing.Goals as goal

pub returns : goal.returns
returns c = λ q s system nested off either r listed. stand_as_untold q s system nested off either r listed
