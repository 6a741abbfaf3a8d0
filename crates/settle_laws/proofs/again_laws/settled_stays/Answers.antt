use Rattle.settle_laws.proofs.Keeping.AgainKept.{all_stand}
use Rattle.settle_laws.proofs.Told.OnlyHeld.{held_of}
use Rattle.settle_laws.proofs.NothingSettled.{start_stays, start_unwritten, grown_stays, grown_unwritten}
use Rattle.settle_laws.proofs.Keeping.AgainSettled.{settled_again, none_again}
use Rattle.settle_laws.proofs.again_laws.settled_stays.Goals as goal

pub returns-clause-stays : goal.returns-clause-stays
returns-clause-stays c = λ q untold s k can. settled_again q (held_of q untold) s k can (all_stand q untold s k can)

pub returns-clause-none : goal.returns-clause-none
returns-clause-none c = λ q untold s k can. none_again q (held_of q untold) s k can (all_stand q untold s k can)

pub returns-clause-start : goal.returns-clause-start
returns-clause-start c = λ q untold s system sound all off.
    (start_stays q untold s system sound all off, start_unwritten q untold s system sound all off, grown_stays q untold s system sound all off, grown_unwritten q untold s system sound all off)
